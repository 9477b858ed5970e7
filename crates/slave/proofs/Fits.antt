-- Whatever the machine does, it fits: the data into the PDU, the span into the memory, an item's octets into the sheet.
use Rattle.std.specs.Prelude.{Option, None, Some, Ok, Err}
use mathlib.Core.Bool.{Bool, true, false}
use mathlib.Core.Path.{◌≡◌, refl, sym, ap, ◌∙◌}
use mathlib.Core.List.{List}
use Prim.Native.Nat.{ℕ, ◌+◌, ◌-◌, ◌*◌, ◌≤◌}
use native.Mathlib.Nat.{le_refl}
use native.Mathlib.Omega.{arith}
use borrow.Author.Tests.{ltb-false, eqb-true, eqb-false, not-false}
use lib.ListN.{length}
use Rattle.octets.proofs.Pick.{pick_ne, pick_both, pick_cases}
use Rattle.frame.specs.Body.{Fitting}
use Rattle.frame.specs.Places.{body_end, data_from, Sized}
use Rattle.frame.proofs.Rooms.{sized, parameter_room, memory_room, quiet_fits, reads_fit, writes_fit, identifies_fit, alarms_fit, connects_fit}
use Rattle.link.specs.declared.state.LinkState.{LinkState}
use Rattle.machine.specs.Connecting.{connect_of}
use Rattle.machine.specs.Judging.{parameter_data, parameter_of, item_data, item_of, alarms_of, clear_of, element_of, memory_of, data_of, strayed, judge_of}
use Rattle.machine.specs.Outcomes.{finished, outcome_of}
use Rattle.machine.specs.Spans.{right_of, moved, granted_of, span_of}
use Rattle.machine.specs.declared.words.Carrier.{Carrier}
use Rattle.machine.specs.declared.words.Carrier.TheVariants.{Parameter as ByParameter, Memory as ByMemory}
use Rattle.machine.specs.declared.words.Command.{Command}
use Rattle.machine.specs.declared.words.Effect.TheVariants.{Quiet}
use Rattle.machine.specs.declared.words.Outcome.{Outcome}
use Rattle.regions.specs.Region.{regions_of}
use Rattle.regions.specs.Search.{place_in, before_of, span_has, span_place}
use Rattle.regions.specs.declared.Right.TheVariants.{Mapped}
use Rattle.regions.proofs.Places.{mapped_spot, span_inside}
use Rattle.regions.proofs.Spans.{all_before, span_mapped}
use Rattle.sheet.specs.Entries.{parameters_of, items_of, sought_parameter, sought_item}
use Rattle.sheet.specs.declared.walk.Form.{Form}
use Rattle.sheet.specs.declared.walk.Layout.{Layout}
use Rattle.sheet.specs.Walk.{verdict_of}
use Rattle.sheet.proofs.Valid.{ValidSheet, valid_apart, valid_parameter, valid_item, valid_sheet, item_inside, length_least, length_short}
use Rattle.slave.specs.Exchange.{Lent, Ready}
use Rattle.sheet.specs.declared.entries.Parameter.{Parameter}
use Rattle.sheet.specs.declared.entries.Item.{Item}
use Rattle.machine.specs.Judgements.{Judgement}

-- a judgement whose effect fits
abbrev Fit : List ℕ → Layout → Judgement → Type 0
Fit s lay (Err r) = Unit {0}
Fit s lay (Ok d) = Fitting lay.form d.effect lay.l lay.memory (length s)

moved_fits : (form : Form) (writes : Bool) (by : Carrier) (place n l m s : ℕ) → data_from form by + n ≤ body_end form l → place + n ≤ m
    → Fitting form (moved writes by place n) l m s
unfolding moved
moved_fits form true by place n l m s d p = writes_fit form l m s by place n d p
moved_fits form false by place n l m s d p = reads_fit form l m s by place n d p

-- a valid sheet has a type and its lengths
pub valid_sized : (s : List ℕ) (lay : Layout) → ValidSheet s lay → Sized lay.form lay.l
valid_sized s lay ok = sized lay.form lay.l (length_least s lay ok) (length_short s lay ok)

module _ (s : List ℕ) (lay : Layout) (ok : ValidSheet s lay) (st : LinkState) (c : Command) (stray : ℕ) where
  quiet : Fitting lay.form Quiet lay.l lay.memory (length s)
  quiet = quiet_fits lay.form lay.l lay.memory (length s)

  -- a span that is wholly mapped stands inside the memory
  span_room : (a n : ℕ) → 1 ≤ n → span_has (regions_of s lay.regions) Mapped a n ≡ true → span_place (regions_of s lay.regions) a n + n ≤ lay.memory
  unfolding place_in
  span_room a n one h =
      let rs = regions_of s lay.regions in
      let all : before_of rs Mapped a n ≡ n = eqb-true _ _ h in
      let spot = mapped_spot rs 0 a (all_before rs Mapped a n all a (le_refl a) (omega arith)) in
      let inside = span_inside 0 rs (valid_apart s lay ok) 0 a spot.0 n spot.1 all one in
      let place : span_place rs a n ≡ spot.0 = pick_ne _ _ (λ (z : n ≡ 0). let w : ⊥ = omega arith in w) ∙ ap place_in spot.1.1 in
      let sum = ok.sound.memory_sum in
      omega arith

  -- what has a right is mapped
  granted_fits : (writes : Bool) (by : Carrier) (a n : ℕ) → 1 ≤ n → data_from lay.form by + n ≤ body_end lay.form lay.l
      → Fit s lay (granted_of writes (regions_of s lay.regions) by a n st)
  unfolding granted_of
  granted_fits writes by a n one room =
      let rs = regions_of s lay.regions in
      pick_cases (Fit s lay) _ (λ u. tt)
      (λ u.
      moved_fits lay.form writes by (span_place rs a n) n lay.l lay.memory (length s) room
      (span_room a n one (span_mapped rs (right_of writes st.link) a n (not-false _ u))))

  span_fits : (writes : Bool) (by : Carrier) (a n : ℕ) → 1 ≤ n → data_from lay.form by + n ≤ body_end lay.form lay.l
      → Fit s lay (span_of writes (regions_of s lay.regions) by a n st)
  unfolding span_of
  span_fits writes by a n one room = pick_both (Fit s lay) _ tt (granted_fits writes by a n one room)

  parameter_found : (writes : Bool) (x : Option Parameter) → sought_parameter (parameters_of s lay.regions lay.parameters) c.number ≡ x
      → Fit s lay (parameter_data writes (regions_of s lay.regions) lay st c x)
  unfolding parameter_data
  parameter_found writes None e = tt
  parameter_found writes (Some p) e =
      let fine = valid_parameter s lay ok c.number p e in
      pick_cases (Fit s lay) _ (λ u. tt)
      (λ u.
      pick_cases (Fit s lay) _ (λ v. tt)
      (λ v.
      let same = eqb-true c.size p.size (not-false _ u) in
      let room = ltb-false (lay.l - 8) c.size v in
      let some = fine.some in
      granted_fits writes ByParameter p.address p.size some (parameter_room lay.form p.size lay.l (valid_sized s lay ok) (omega arith))))

  item_found : (x : Option Item) → sought_item (items_of s lay.regions lay.parameters lay.items) c.item ≡ x
      → Fit s lay (item_data lay st c x)
  unfolding item_data
  item_found None e = tt
  item_found (Some i) e =
      pick_cases (Fit s lay) _ (λ u. tt)
      (λ u.
      pick_cases (Fit s lay) _ (λ v. tt)
      (λ v.
      pick_cases (Fit s lay) _ (λ w. tt)
      (λ w.
      let none = eqb-false c.count 0 u in
      let some : 1 ≤ c.count = omega arith in
      let own = ltb-false i.length (c.offset + c.count) v in
      let room = ltb-false (lay.l - 8) c.count w in
      let fine = valid_item s lay ok c.item i e in
      let most = fine.most in
      let inside = item_inside s lay ok c.item i e in
      identifies_fit lay.form lay.l lay.memory (length s) (i.at + c.offset) c.count (valid_sized s lay ok) room (omega arith))))

  memory_fits : (writes : Bool) → Fit s lay (memory_of writes s lay st c)
  unfolding memory_of
  memory_fits writes =
      pick_both (Fit s lay) _ tt
      (pick_cases (Fit s lay) _ (λ u. tt)
      (λ u.
      pick_cases (Fit s lay) _ (λ v. tt)
      (λ v.
      let none = eqb-false (c.count * element_of c.mode) 0 u in
      let some : 1 ≤ c.count * element_of c.mode = omega arith in
      let room = ltb-false (lay.l - 12) (c.count * element_of c.mode) v in
      span_fits writes ByMemory c.address (c.count * element_of c.mode) some (memory_room lay.form (c.count * element_of c.mode) lay.l (valid_sized s lay ok) some room))))

  alarms_told : Fit s lay (alarms_of lay st c)
  unfolding alarms_of
  alarms_told =
      pick_cases (Fit s lay) _ (λ u. tt)
      (λ u.
      pick_both (Fit s lay) _ tt
      (alarms_fit lay.form lay.l lay.memory (length s) st.latches.command st.latches.communication (ltb-false lay.l 16 u)))

  clear_fits : Fit s lay (clear_of st c)
  unfolding clear_of
  clear_fits = pick_both (Fit s lay) _ tt quiet

  connect_fits : Fit s lay (connect_of lay st c)
  unfolding connect_of
  connect_fits =
      pick_both (Fit s lay) _ tt (pick_both (Fit s lay) _ tt (pick_both (Fit s lay) _ tt (pick_both (Fit s lay) _ tt (connects_fit lay.form lay.l lay.memory (length s) (valid_sized s lay ok)))))

  strayed_fits : (j : Judgement) → Fit s lay j → Fit s lay (strayed stray j)
  unfolding strayed
  strayed_fits (Err r) f = pick_both (Fit s lay) _ tt tt
  strayed_fits (Ok d) f = pick_both (Fit s lay) _ f tt

  judge_fits : Fit s lay (judge_of s lay st c stray)
  unfolding judge_of data_of parameter_of item_of
  judge_fits =
      let P = Fit s lay in
      pick_both P _ tt
      (pick_both P _ tt
      (strayed_fits _
      (pick_both P _ quiet
      (pick_both P _ (parameter_found false _ refl)
      (pick_both P _ (parameter_found true _ refl)
      (pick_both P _ (item_found _ refl)
      (pick_both P _ alarms_told
      (pick_both P _ clear_fits
      (pick_both P _ quiet
      (pick_both P _ connect_fits
      (pick_both P _ quiet
      (pick_both P _ (memory_fits false) (memory_fits true)))))))))))))

  finished_fits : (j : Judgement) → Fit s lay j → Fitting lay.form (finished st c j).effect lay.l lay.memory (length s)
  unfolding finished
  finished_fits (Err r) f = quiet
  finished_fits (Ok d) f = f

  pub outcome_fits : Fitting lay.form (outcome_of s lay st c stray).effect lay.l lay.memory (length s)
  unfolding outcome_of
  outcome_fits =
      pick_both (λ (o : Outcome). Fitting lay.form o.effect lay.l lay.memory (length s)) _ quiet (finished_fits (judge_of s lay st c stray) judge_fits)

-- on lent lists of the right lengths the effect of what a command comes to fits, over any reply begun of the same length
pub lent_fits : (sheet memory command reply : List ℕ) (lay : Layout) (st : LinkState) → verdict_of sheet ≡ Ok lay → Lent memory command reply lay
    → (c : Command) (stray : ℕ) (o : Outcome) (begun : List ℕ) → o ≡ outcome_of sheet lay st c stray → length begun ≡ length reply
    → (length command ≡ length begun) × Fitting lay.form o.effect (length begun) (length memory) (length sheet)
lent_fits sheet memory command reply lay st v p c stray o begun e l =
    let same : length begun ≡ lay.l = l ∙ p.lent in
    (p.asked ∙ sym same, rw (same, p.whole, e) (outcome_fits sheet lay (valid_sheet sheet lay v) st c stray))

-- where nothing refuses, the lists have the lengths that a layout says
pub ready_lent : (state memory command reply : List ℕ) (lay : Layout) (st : LinkState) → Ready state memory command reply lay st → Lent memory command reply lay
ready_lent state memory command reply lay st p = p.lists
