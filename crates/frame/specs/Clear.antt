-- The short cut past a command that has no stray octet. Nothing has to be believed of it: `stray_from` says which octet is stray.
use Rattle.std.specs.Prelude.{ℕ, ◌+◌, ◌-◌, ◌%◌, ◌≤◌, ◌<◌, List, ◌≡◌, eqb, ltb, get_or}
use Rattle.octets.specs.Pick.{pick}
use Rattle.sheet.specs.declared.walk.Form.{Form}
use Rattle.sheet.specs.declared.walk.Form.TheVariants.{Enhanced, Short}
use Rattle.frame.specs.Unnamed.{fields_at, written_at, names_for}
use Rattle.frame.specs.declared.unnamed.Names.{Names}
use Rattle.frame.specs.declared.unnamed.Run.{Run}

-- what a command names, by its own fields and data, and as the runs that `stray_from` goes by
unfoldable pub named_by : Form → List ℕ → Names
named_by form c = record { form = form; fields = fields_at form (get_or c 0 0); written = written_at form (get_or c 0 0) c }

abbrev pub runs_of : Names → List Run
runs_of n = names_for n.form n.fields n.written

-- the octets before the fields may be what they are
unfoldable pub HeadClear : Form → List ℕ → Type 0
HeadClear Enhanced c = (get_or c 2 0 % 64 ≡ 0) × (get_or c 3 0 ≡ 0)
HeadClear Short c = (k : ℕ) → 1 ≤ k → k < 4 → get_or c k 0 ≡ 0

-- the octets behind the fields end here, where WDT stands last
unfoldable pub unnamed_end : Form → ℕ → ℕ
unnamed_end Enhanced l = l
unnamed_end Short l = pick (eqb l 16) 15 l

-- the part behind a run begins here, at the end of l octets at the latest
unfoldable pub behind_run : Run → ℕ → ℕ
behind_run r l = pick (ltb l r.first) l (pick (ltb (l - r.first) r.many) l (r.first + r.many))
