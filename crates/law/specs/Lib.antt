-- Document 01, and requests 1, 2, 3, 5, 6, 7, 8, 9 and 13 of document 02, as tables, each word before its use. They share no definition with the machine, but the library's words for
-- lists and numbers. Promises has what the calls promise, by the machine's definitions, and ByTables says that this is what the tables say. A quotation is
-- the paper's own words, ".." standing for some left out; where its table has columns, they are joined by a colon.
-- Not here, of these papers: what is the host's duty or the boundary's ("That the buffers are distinct", "never with a struct of the caller's layout"; kit);
-- how the code is to look ("Forms to follow", "The record goes in whole ..", "For each octet of a span the regions are searched ..", "A reader that holds the
-- trace .."; docs/FORMS.md), "no octet past 7 is looked at" among it; what is not built; the eleven cases "On the bench", which these tables compute
-- (demands, LawBench), and the lines that the bench program prints (bench; tests/programs); "Slips we have seen" (must-fail); "Held to the definitions" and
-- what request 6 says of demand 3 (demands).
pub mod Words
pub mod Sheet
pub mod Faults
pub mod State
pub mod Memory
pub mod Table
pub mod Exchange
pub mod Calls
pub mod Trace
pub mod Difference
pub mod Promises
pub mod ByTables
