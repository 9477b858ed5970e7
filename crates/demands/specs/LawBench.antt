-- The bench cases once more, by the law alone: no definition of the machine computes here.
use Rattle.std.specs.Prelude.{[], ◌∷◌, ◌≡◌}
use Rattle.law.specs.Words.{Every}
use Rattle.law.specs.Sheet.{enhanced, Sheet}
use Rattle.law.specs.Calls.{Result, result, exchange}
use Rattle.law.specs.ByTables.{ByLaw}
use Rattle.slave.specs.Exchange.{Left}
use Rattle.demands.specs.Bench.{Case, cases, old}

-- sheet P as the law has it
abbrev pub law_p : Sheet
law_p = record {
  pdu = enhanced;
  l = 16;
  version = 0x30;
  profile = 0;
  regions = record { start = 0x1000; length = 4; rights = 3 } ∷ record { start = 0x1004; length = 4; rights = 6 } ∷ [];
  parameters = record { number = 7; address = 0x1002; size = 2 } ∷ [];
  items = [];
  tolerances = [];
  releases = [];
}

-- what a case wants, as a result
abbrev pub wanted : Left → Result
wanted l = result l.answer.number l.answer.place l.state l.memory l.reply

-- the law gives each case what it wants
abbrev pub BenchByLaw : Type 0
BenchByLaw =
    Every (λ (k : Case).
    ByLaw k.sheet (λ h x. x ≡ exchange h k.state k.memory k.command old) (λ f place. result f place k.state k.memory old) (wanted k.want)) cases
