-- Whoever makes calls that each meet their promise has what the defined run says.
use mathlib.Core.Path.{◌≡◌, refl, ap, ◌∙◌}
use mathlib.Core.List.{List, ◌∷◌}
use Prim.Native.Nat.{ℕ}
use Rattle.slave.specs.Exchange.{Left, left}
use Rattle.demands.specs.Sequences.{Call, Reset, Enable, Turn, Exchange, Replay, call_of, run_of, Meets, History, start, next}

-- two lefts that meet one promise are what the defined call leaves
met : (sheet state memory : List ℕ) (c : Call) (l : Left) → Meets sheet state memory c l → l ≡ call_of sheet state memory c
unfolding call_of
met sheet state memory Reset l m =
    λ i. left (m.0 i).answer (m.0 i).state (m.1 i) (m.2 i)
met sheet state memory Enable l m =
    λ i. left (m.0 i).answer (m.0 i).state (m.1 i) (m.2 i)
met sheet state memory (Turn old) l m =
    λ i. left (m.0 i).answer (m.0 i).state (m.1 i) (m.2 i)
met sheet state memory (Exchange command reply) l m = m
met sheet state memory (Replay trace) l m =
    λ i. left (m.0 i).answer (m.0 i).state (m.0 i).memory (m.1 i)

pub history_is_run : (sheet : List ℕ) {state memory : List ℕ} {cs : List Call} {ls : List Left} → History sheet state memory cs ls
    → ls ≡ run_of sheet state memory cs
unfolding run_of
history_is_run sheet start = refl
history_is_run sheet (next {state = st} {memory = m} {c = c} {l = l} {cs = cs} {ls = ls} p h) =
    let e = met sheet st m c l p in
    ap (λ (x : List Left). l ∷ x) (history_is_run sheet h)
    ∙ ap (λ (x : Left). x ∷ run_of sheet x.state x.memory cs) e
