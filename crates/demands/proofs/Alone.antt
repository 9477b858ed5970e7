-- All five idle programs keep secrets: what demand 3 asks alone does not shut them out, and so it speaks of the machine of demand 2.
use mathlib.Core.Logic.{inl}
use mathlib.Core.Path.{◌≡◌, refl, sym, ap, ap₂, ◌∙◌}
use mathlib.Core.List.{List, [], ◌∷◌, map}
use Prim.Native.Nat.{ℕ}
use lib.ListN.{get_or, set}
use Rattle.law.specs.Sheet.{Sheet, WellFormed, sheet_octets}
use Rattle.slave.specs.Exchange.{Left, exchange_of}
use Rattle.demands.specs.Hidden.{DifferOnlyHidden, Seen, seen}
use Rattle.demands.specs.Idle.{KeepsSecrets, AgreesWhereReached, refuses_all, single_reply, stores_nothing, echoes, echoes_afterwards, inventing, invents_rsn}
use Rattle.demands.specs.Sequences.{Call, Reset, Enable, Turn, Exchange, Replay, call_of, run_of, last_memory}
use Rattle.octets.proofs.Overlaid.{still_agree}
use Rattle.demands.proofs.Runs.{call_kept, demand_3}

-- the same behind the same
behind : {x : Seen} {xs ys : List Seen} → xs ≡ ys → x ∷ xs ≡ x ∷ ys
behind {x} e = ap (λ (zs : List Seen). x ∷ zs) e

-- a program that leaves the memory as it was, and shows nothing of it
module _ (sheet state m₁ m₂ : List ℕ) where
  refuses_seen : (calls : List Call) → map seen (refuses_all sheet state m₁ calls) ≡ map seen (refuses_all sheet state m₂ calls)
  unfolding refuses_all
  refuses_seen [] = refl
  refuses_seen (c ∷ cs) = behind (refuses_seen cs)

  single_seen : (calls : List Call) → map seen (single_reply sheet state m₁ calls) ≡ map seen (single_reply sheet state m₂ calls)
  unfolding single_reply
  single_seen [] = refl
  single_seen (c ∷ cs) = behind (single_seen cs)

  echoes_seen : (calls : List Call) → map seen (echoes state m₁ calls) ≡ map seen (echoes state m₂ calls)
  unfolding echoes
  echoes_seen [] = refl
  echoes_seen (Reset ∷ cs) = behind (echoes_seen cs)
  echoes_seen (Enable ∷ cs) = behind (echoes_seen cs)
  echoes_seen (Turn old ∷ cs) = behind (echoes_seen cs)
  echoes_seen (Exchange command reply ∷ cs) = behind (echoes_seen cs)
  echoes_seen (Replay trace ∷ cs) = behind (echoes_seen cs)

module _ (sheet state memory : List ℕ) where
  refuses_last : (calls : List Call) → last_memory memory (refuses_all sheet state memory calls) ≡ memory
  unfolding refuses_all last_memory
  refuses_last [] = refl
  refuses_last (c ∷ cs) = refuses_last cs

  single_last : (calls : List Call) → last_memory memory (single_reply sheet state memory calls) ≡ memory
  unfolding single_reply last_memory
  single_last [] = refl
  single_last (c ∷ cs) = single_last cs

  echoes_last : (calls : List Call) → last_memory memory (echoes state memory calls) ≡ memory
  unfolding echoes last_memory
  echoes_last [] = refl
  echoes_last (Reset ∷ cs) = echoes_last cs
  echoes_last (Enable ∷ cs) = echoes_last cs
  echoes_last (Turn old ∷ cs) = echoes_last cs
  echoes_last (Exchange command reply ∷ cs) = echoes_last cs
  echoes_last (Replay trace ∷ cs) = echoes_last cs

stores_last : (sheet state memory : List ℕ) (calls : List Call) → last_memory memory (stores_nothing sheet state memory calls) ≡ memory
unfolding stores_nothing last_memory
stores_last sheet state memory [] = refl
stores_last sheet state memory (c ∷ cs) = stores_last sheet (call_of sheet state memory c).state memory cs

pub refuses_all_keeps_secrets : KeepsSecrets refuses_all
refuses_all_keeps_secrets h w state m₁ m₂ d calls =
    (refuses_seen (sheet_octets h) state m₁ m₂ calls, still_agree _ _ m₁ m₂ (refuses_last (sheet_octets h) state m₁ calls) (refuses_last (sheet_octets h) state m₂ calls))

pub single_reply_keeps_secrets : KeepsSecrets single_reply
single_reply_keeps_secrets h w state m₁ m₂ d calls =
    (single_seen (sheet_octets h) state m₁ m₂ calls, still_agree _ _ m₁ m₂ (single_last (sheet_octets h) state m₁ calls) (single_last (sheet_octets h) state m₂ calls))

-- a program that answers as the machine does shows what the machine shows
stores_seen : (h : Sheet) → WellFormed h → (m₁ m₂ : List ℕ) → DifferOnlyHidden h m₁ m₂ → (calls : List Call)
    (state : List ℕ) → map seen (stores_nothing (sheet_octets h) state m₁ calls) ≡ map seen (stores_nothing (sheet_octets h) state m₂ calls)
unfolding stores_nothing
stores_seen h w m₁ m₂ d [] state = refl
stores_seen h w m₁ m₂ d (c ∷ cs) state =
    let k = (call_kept h w (λ i. get_or m₁ i 0 ≡ get_or m₂ i 0) d.shown state m₁ m₂ d.whole₁ d.whole₂ (λ i e. e) c).same in
    ap₂ (λ (x : Seen) (xs : List Seen). x ∷ xs) k
    (stores_seen h w m₁ m₂ d cs (call_of (sheet_octets h) state m₁ c).state
    ∙ ap (λ (s : List ℕ). map seen (stores_nothing (sheet_octets h) s m₂ cs)) (ap (λ (x : Seen). x.state) k))

pub stores_nothing_keeps_secrets : KeepsSecrets stores_nothing
stores_nothing_keeps_secrets h w state m₁ m₂ d calls =
    (stores_seen h w m₁ m₂ d calls state, still_agree _ _ m₁ m₂ (stores_last (sheet_octets h) state m₁ calls) (stores_last (sheet_octets h) state m₂ calls))

pub echoes_afterwards_keeps_secrets : KeepsSecrets echoes_afterwards
unfolding call_of echoes_afterwards last_memory
echoes_afterwards_keeps_secrets h w state m₁ m₂ d [] = (refl, λ i e. e)
echoes_afterwards_keeps_secrets h w state m₁ m₂ d (Reset ∷ cs) =
    let k = echoes_afterwards_keeps_secrets h w (call_of (sheet_octets h) state m₁ Reset).state m₁ m₂ d cs in (behind k.0, k.1)
echoes_afterwards_keeps_secrets h w state m₁ m₂ d (Enable ∷ cs) =
    let k = echoes_afterwards_keeps_secrets h w (call_of (sheet_octets h) state m₁ Enable).state m₁ m₂ d cs in (behind k.0, k.1)
echoes_afterwards_keeps_secrets h w state m₁ m₂ d (Turn old ∷ cs) =
    let k = echoes_afterwards_keeps_secrets h w (call_of (sheet_octets h) state m₁ (Turn old)).state m₁ m₂ d cs in (behind k.0, k.1)
echoes_afterwards_keeps_secrets h w state m₁ m₂ d (Replay trace ∷ cs) =
    let k = call_kept h w (λ i. get_or m₁ i 0 ≡ get_or m₂ i 0) d.shown state m₁ m₂ d.whole₁ d.whole₂ (λ i e. e) (Replay trace) in
    let l₁ = call_of (sheet_octets h) state m₁ (Replay trace) in
    let l₂ = call_of (sheet_octets h) state m₂ (Replay trace) in
    let e : l₁.state ≡ l₂.state = ap (λ (x : Seen). x.state) k.same in
    let ih = echoes_afterwards_keeps_secrets h w l₁.state l₁.memory l₂.memory
    (record { whole₁ = k.whole₁; whole₂ = k.whole₂; shown = λ i r. k.agree i (inl (d.shown i r)) }) cs in (
      ap₂ (λ (x : Seen) (xs : List Seen). x ∷ xs) k.same (ih.0 ∙ ap (λ (s : List ℕ). map seen (echoes_afterwards (sheet_octets h) s l₂.memory cs)) e),
      λ i q. ih.1 i (k.agree i (inl q)) ∙ ap (λ (s : List ℕ). get_or (last_memory l₂.memory (echoes_afterwards (sheet_octets h) s l₂.memory cs)) i 0) e,
    )
echoes_afterwards_keeps_secrets h w state m₁ m₂ d (Exchange command reply ∷ cs) =
    let k = call_kept h w (λ i. get_or m₁ i 0 ≡ get_or m₂ i 0) d.shown state m₁ m₂ d.whole₁ d.whole₂ (λ i e. e) (Exchange command reply) in
    let l₁ = exchange_of (sheet_octets h) state m₁ command reply in
    let l₂ = exchange_of (sheet_octets h) state m₂ command reply in (
      ap₂ (λ (x : Seen) (xs : List Seen). x ∷ xs) k.same
          (echoes_seen (sheet_octets h) l₁.state l₁.memory l₂.memory cs
          ∙ ap (λ (s : List ℕ). map seen (echoes s l₂.memory cs)) (ap (λ (x : Seen). x.state) k.same)),
      λ i e. still_agree _ _ l₁.memory l₂.memory (echoes_last (sheet_octets h) l₁.state l₁.memory cs) (echoes_last (sheet_octets h) l₂.state l₂.memory cs) i (k.agree i (inl e)),
    )

-- a change of what is seen alone
abbrev invented_seen : Seen → Seen
invented_seen s = record { answer = s.answer; state = s.state; reply = set s.reply 1 0xF0 }

invents_seen : (ls : List Left) → map seen (map inventing ls) ≡ map invented_seen (map seen ls)
invents_seen [] = refl
invents_seen (l ∷ ls) = behind (invents_seen ls)

invents_last : (memory : List ℕ) (ls : List Left) → last_memory memory (map inventing ls) ≡ last_memory memory ls
unfolding last_memory
invents_last memory [] = refl
invents_last memory (l ∷ ls) = invents_last l.memory ls

pub invents_rsn_keeps_secrets : KeepsSecrets invents_rsn
unfolding invents_rsn
invents_rsn_keeps_secrets h w state m₁ m₂ d calls =
    let k = demand_3 h w state m₁ m₂ d calls in (
      invents_seen (run_of (sheet_octets h) state m₁ calls) ∙ ap (map invented_seen) k.0 ∙ sym (invents_seen (run_of (sheet_octets h) state m₂ calls)),
      λ i e. still_agree _ _ _ _ (invents_last m₁ (run_of (sheet_octets h) state m₁ calls)) (invents_last m₂ (run_of (sheet_octets h) state m₂ calls)) i (k.1 i e),
    )

pub invents_rsn_agrees_where_reached : AgreesWhereReached invents_rsn
unfolding invents_rsn
invents_rsn_agrees_where_reached h w state m₁ m₂ d calls i r =
    still_agree _ _ _ _ (invents_last m₁ (run_of (sheet_octets h) state m₁ calls)) (invents_last m₂ (run_of (sheet_octets h) state m₂ calls)) i
    ((demand_3 h w state m₁ m₂ d calls).2 i r)
