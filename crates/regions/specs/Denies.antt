-- What ends the search for a right over regions that are ordered and apart. Nothing has to be believed of it: the search is proved to say what
-- specs/Search.antt says.
use Rattle.std.specs.Prelude.{ℕ, ◌+◌, Bool, true, false, not, leb, ltb}
use Rattle.octets.specs.Pick.{pick}
use Rattle.regions.specs.Region.{gives_of}
use Rattle.regions.specs.declared.Region.{Region}
use Rattle.regions.specs.declared.Right.{Right}

-- whether a region tells that the octet at an address lacks a right: it ends behind the octet, and starts behind it or does not give the right
unfoldable pub denies_of : Region → Right → ℕ → Bool
denies_of r w a = pick (leb (r.start + r.length) a) false (pick (ltb a r.start) true (not (gives_of r.rights w)))
