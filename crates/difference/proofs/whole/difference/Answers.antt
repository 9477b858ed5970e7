-- `difference::whole::difference` meets its contract: the first sheet, the second, and the list.
use Rattle.std.proofs.Common.{◌≡◌, Result, Ok, Err, refl, sym, subst, ◌∙◌}
use Rattle.std.specs.Result.{MatchResult, IsErrAnd}
use Rattle.std.proofs.lemmas.Result.{err_from_is_err_and}
use Rattle.sheet.proofs.Valid.{valid_sheet}
use Rattle.slave.specs.Answers.{sheet_answer, on_sheet}
use Rattle.difference.specs.Answers.{refusal_answer, entered_answer}
use Rattle.difference.specs.Difference.{difference_of}
use Rattle.difference.proofs.whole.difference.Goals as goal

-- what `map_err` made an error of, and that it leaves a value
made_of : {A E F : Type 0} (r : Result A E) (s : Result A F) (Q : E → F → Type 0) (f : F) → MatchResult r (λ x. s ≡ Ok x) (λ e. IsErrAnd s (Q e)) → s ≡ Err f
    → (e : E) × (r ≡ Err e) × Q e f
made_of (Ok x) s Q f m e = absurd (cc)
made_of (Err x) (Ok y) Q f m e = absurd m
made_of (Err x) (Err y) Q f m e = let same : y ≡ f = cc in (x, refl, subst (Q x) same m)

kept : {A E F : Type 0} (r : Result A E) (s : Result A F) (Q : E → F → Type 0) (x : A) → MatchResult r (λ y. s ≡ Ok y) (λ e. IsErrAnd s (Q e)) → s ≡ Ok x → r ≡ Ok x
kept (Ok y) s Q x m e = cc
kept (Err y) (Ok z) Q x m e = absurd m
kept (Err y) (Err z) Q x m e = cc

pub returns-in_err-map_err : goal.returns-in_err-map_err
unfolding difference_of on_sheet sheet_answer entered_answer refusal_answer
returns-in_err-map_err c =
    let flaw = made_of c.check.result c.map_err.result _ _ c.map_err.ensures.cases c.in_err-map_err.was in
    let told = err_from_is_err_and c.from_residual.result c.from_residual.ensures.1 in
    rw (told.1, told.2, flaw.2, sym c.check.ensures ∙ flaw.1)

pub returns-in_err-map_err-2 : goal.returns-in_err-map_err-2
unfolding difference_of on_sheet sheet_answer entered_answer refusal_answer
returns-in_err-map_err-2 c =
    let valid = kept c.check.result c.map_err.result _ _ c.map_err.ensures.cases c.in_ok-map_err.was in
    let flaw = made_of c.check-2.result c.map_err-2.result _ _ c.map_err-2.ensures.cases c.in_err-map_err-2.was in
    let told = err_from_is_err_and c.from_residual-in_err-map_err-2.result c.from_residual-in_err-map_err-2.ensures.1 in
    rw (told.1, told.2, flaw.2, sym c.check.ensures ∙ valid, sym c.check-2.ensures ∙ flaw.1)

pub enter-requires : goal.enter-requires
enter-requires c =
    let first = kept c.check.result c.map_err.result _ _ c.map_err.ensures.cases c.in_ok-map_err.was in
    let second = kept c.check-2.result c.map_err-2.result _ _ c.map_err-2.ensures.cases c.in_ok-map_err-2.was in (
      (valid_sheet c.args.first.now _ (sym c.check.ensures ∙ first)).short,
      (valid_sheet c.args.second.now _ (sym c.check-2.ensures ∙ second)).short,
    )

pub returns : goal.returns
unfolding difference_of on_sheet
returns c =
    let first = kept c.check.result c.map_err.result _ _ c.map_err.ensures.cases c.in_ok-map_err.was in
    let second = kept c.check-2.result c.map_err-2.result _ _ c.map_err-2.ensures.cases c.in_ok-map_err-2.was in
    rw (sym c.check.ensures ∙ first, sym c.check-2.ensures ∙ second) c.enter.ensures
