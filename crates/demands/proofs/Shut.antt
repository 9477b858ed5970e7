-- Demand 2 shuts the five idle programs out, each at a named case of the bench.
use mathlib.Core.Path.{◌≡◌, sym, ap, ◌∙◌}
use mathlib.Core.List.{List, [], ◌∷◌, map}
use Prim.Native.Nat.{ℕ}
use native.Mathlib.Omega.{arith}
use lib.ListN.{get_or}
use Rattle.slave.specs.Answers.{told}
use Rattle.slave.specs.Exchange.{Left, left}
use Rattle.demands.specs.Bench.{Case, case1, case2, case4, case7, case10a, cases, old, ran}
use Rattle.demands.specs.Idle.{Demand2, refuses_all, single_reply, stores_nothing, echoes, echoes_afterwards, inventing, invents_rsn}
use Rattle.demands.specs.Sequences.{Call, Exchange, call_of, run_of}
use Rattle.demands.proofs.Bench.{bench_cases}

-- one of what calls left, counted from 0
abbrev nth : ℕ → List Left → Left
nth n ls = get_or ls n (left (told 0 0) [] [] [])

comes : (n : ℕ) → nth n (map ran cases) ≡ nth n (map (λ (k : Case). k.want) cases)
comes n = ap (nth n) bench_cases

-- a case as a call
abbrev called_for : Case → Call
called_for k = Exchange k.command old

-- a run that begins with a case leaves what the case wants, and goes on from there
runs : (k : Case) (calls : List Call) → ran k ≡ k.want
    → run_of k.sheet k.state k.memory (called_for k ∷ calls) ≡ k.want ∷ run_of k.sheet k.want.state k.want.memory calls
unfolding call_of run_of
runs k calls e = ap (λ (l : Left). l ∷ run_of k.sheet l.state l.memory calls) e

-- at case 1: the answer is 0 and not 1
pub refuses_all_is_shut_out : Demand2 refuses_all → ⊥
unfolding refuses_all
refuses_all_is_shut_out d =
    let e : ◌≡◌ {A = ℕ} 1 0 = ap (λ (ls : List Left). (nth 0 ls).answer.number) (d _ _ _ _ ∙ runs case1 [] (comes 0)) in
    omega arith

-- at case 2: status octet 2 is 05 and not 04
pub single_reply_is_shut_out : Demand2 single_reply → ⊥
unfolding single_reply
single_reply_is_shut_out d =
    let e : ◌≡◌ {A = ℕ} 4 5 = ap (λ (ls : List Left). get_or (nth 0 ls).reply 2 0) (d _ _ _ _ ∙ runs case2 [] (comes 1)) in
    omega arith

-- at case 4: memory octet 2 is 01 and not 0C
pub stores_nothing_is_shut_out : Demand2 stores_nothing → ⊥
unfolding stores_nothing
stores_nothing_is_shut_out d =
    let e : ◌≡◌ {A = ℕ} 12 1 = ap (λ (ls : List Left). get_or (nth 0 ls).memory 2 0) (d _ _ _ _ ∙ runs case4 [] (comes 3)) in
    omega arith

-- at case 7, made behind case 1, which leaves state and memory as case 7 has them: status octet 2 is 05, and an echo has 00 there
pub echoes_afterwards_is_shut_out : Demand2 echoes_afterwards → ⊥
unfolding echoes echoes_afterwards
echoes_afterwards_is_shut_out d =
    let both = d _ _ _ _ ∙ runs case1 (called_for case7 ∷ []) (comes 0) ∙ ap (λ (ls : List Left). case1.want ∷ ls) (runs case7 [] (comes 6)) in
    let e : ◌≡◌ {A = ℕ} 0 5 = ap (λ (ls : List Left). get_or (nth 1 ls).reply 2 0) both in
    omega arith

-- at case 10: RWDT is 60 hex and not F0 hex
pub invents_rsn_is_shut_out : Demand2 invents_rsn → ⊥
unfolding invents_rsn
invents_rsn_is_shut_out d =
    let run = runs case10a [] (comes 11) in
    let e : ◌≡◌ {A = ℕ} 240 96 = ap (λ (ls : List Left). get_or (nth 0 ls).reply 1 0) (sym (ap (map inventing) run) ∙ d _ _ _ _ ∙ run) in
    omega arith
