-- What a row of a table says and what the machine does for its code: how they go together, and the rows that both types have.
use mathlib.Core.Bool.{Bool, true, false, not}
use mathlib.Core.Logic.{◌⊎◌}
use mathlib.Core.Path.{◌≡◌, refl, sym, ap, ap₂, subst, ◌∙◌}
use mathlib.Core.List.{List, [], ◌∷◌, ◌++◌, map}
use Prim.Native.Nat.{ℕ, ◌+◌, ◌-◌, ◌/◌, ◌%◌, ◌≤◌}
use native.Mathlib.Omega.{arith}
use borrow.Author.Tests.{leb-true, eqb-true}
use lib.Dec.{eqb, ltb}
use lib.ListN.{length, take, drop, length-take, length-drop}
use Rattle.std.specs.Prelude.{Option}
use Rattle.octets.specs.Parts.{part, put_at}
use Rattle.octets.specs.Pick.{pick}
use Rattle.frame.specs.Body.{memory_after}
use Rattle.frame.specs.Places.{place_of, body_end, data_from, Sized}
use Rattle.frame.proofs.Bodies.{carried_at, body_at, quiet_at, reads_at, writes_at}
use Rattle.frame.proofs.Kept.{quiet_keeps, reads_keep, writes_store, identifies_keep}
use Rattle.frame.proofs.Named.{named, Tells, whole_at, number_at, size_at_lem, item_at_lem, count_at, version_at, com_mod_at, com_time_at, alarm_mode_at, span_at}
use Rattle.frame.proofs.Numbers.{end_within}
use Rattle.frame.proofs.Rooms.{sized, parameter_room}
use Rattle.law.specs.Words.{when, Piece, piece, laid}
use Rattle.law.specs.Sheet.{PduType, enhanced, short, Sheet, GoodLength, allows}
use Rattle.law.specs.Memory.{cells, stored, held, has_all, mapped}
use Rattle.law.specs.Table.{Check, check, rights_check, Run, Row, row, parameter_checks as param_checks, parameter_rights, item_checks, item_part, connect_checks, number, parameter as param, item as ident}
use Rattle.law.specs.Exchange.{Fate, fate, code, wdt, refused, checked, passing}
use Rattle.link.specs.Steps.{latched, cleared, connected}
use Rattle.link.specs.Stored.{octets_of}
use Rattle.link.specs.declared.state.LinkState.{LinkState}
use Rattle.link.proofs.Facts.{Facts}
use Rattle.machine.specs.Connecting.{profile_fits, connect_of}
use Rattle.machine.specs.Judgements.{Judgement, alarm_number, accepted, refused as refusal}
use Rattle.machine.specs.Judging.{parameter_data, parameter_of, item_data, item_of, clear_of}
use Rattle.machine.specs.Outcomes.{counting, finished}
use Rattle.machine.specs.Spans.{granted_of, span_of, moved, right_of}
use Rattle.machine.specs.declared.codes.Alarm.{Alarm}
use Rattle.machine.specs.declared.codes.Alarm.TheVariants.{OutOfRange, NoRight}
use Rattle.machine.specs.declared.words.Carrier.{Carrier}
use Rattle.machine.specs.declared.words.Carrier.TheVariants.{Parameter as ByParameter}
use Rattle.machine.specs.declared.words.Effect.{Effect}
use Rattle.machine.specs.declared.words.Effect.TheVariants.{Quiet, Identifies, Connects}
use Rattle.machine.specs.declared.words.Field.{Field}
use Rattle.machine.specs.declared.words.Field.TheVariants.{Number, Item as ItemField, Address, Profile, Span}
use Rattle.machine.specs.declared.words.Outcome.{Outcome}
use Rattle.regions.specs.Region.{regions_of, gives_of}
use Rattle.regions.specs.Search.{before_of, span_place}
use Rattle.regions.specs.declared.Region.{Region}
use Rattle.regions.specs.declared.Right.TheVariants.{Mapped}
use Rattle.regions.proofs.Spans.{span_mapped}
use Rattle.sheet.specs.Entries.{sought_parameter}
use Rattle.sheet.specs.declared.entries.Item.{Item}
use Rattle.sheet.specs.declared.entries.Parameter.{Parameter}
use Rattle.sheet.specs.declared.walk.Form.{Form}
use Rattle.sheet.specs.declared.walk.Form.TheVariants.{Enhanced, Short}
use Rattle.sheet.specs.declared.walk.Layout.{Layout}
use Rattle.law.proofs.Fields.{less_not, less_most, none_not, two_octets, com_mod_lem, com_mods, com_time_lem, param_found, param_missing}
use Rattle.law.proofs.Goes.{Moves, Goes, goes_kept, goes_latched, goes_cleared}
use Rattle.law.proofs.Laid.{stored_none}
use Rattle.law.proofs.Layouts.{form_for, layout_as, as_region}
use Rattle.law.proofs.Spans.{all_span, before_span}
use Rattle.law.proofs.World.{data_piece, written, World, mapped_is}

-- what a type's lengths are to the frame
pub pdu_sized : (pdu : PduType) (l : ℕ) → 8 ≤ l → GoodLength pdu l → Sized (form_for pdu) l
pdu_sized enhanced l long good = sized Enhanced l long (λ e. cc)
pdu_sized short l long good = sized Short l long (λ e. good)

module _ (pdu : PduType) (h : Sheet) (sheet : List ℕ) (st : LinkState) (m c : List ℕ) where
  abbrev form : Form
  form = form_for pdu

  -- the command's MN
  abbrev pub sent : ℕ
  sent = wdt pdu c % 16

  -- an outcome of the machine and a fate of the table are the same: alarm, place, next state, body and memory
  pub record Same (o : Outcome) (f : Fate) : Type 0 where
    pub alarm : o.alarm ≡ f.alarm
    pub place : place_of o.field ≡ f.place
    pub next : Moves st o.next sent f.changes
    pub body : (k old : ℕ) → body_at form o.effect sheet m c k old ≡ laid f.body k old
    pub memory : memory_after form o.effect c m ≡ stored f.stores (cells h.regions) m

  module _ (facts : Facts h.l (allows h) st) (on : st.link ≡ 0 → ⊥) (world : World h sheet m) (good : GoodLength pdu h.l) (asked : length c ≡ h.l)
      (wdt-is : (named form (code c) c).wdt ≡ wdt pdu c) where
    whole : length m ≡ length (cells h.regions)
    whole = world.whole

    pub record J (j : Judgement) (f : Fate) : Type 0 where
      pub same : Same (finished st (named form (code c) c) j) (passing f)

    abbrev s : List ℕ
    s = octets_of st

    -- a state that goes on by the law's MN goes on by the machine's
    moves : (next : LinkState) (ps : List Piece) → Moves st (counting st next sent) sent ps → Moves st (counting st next ((named form (code c) c).wdt % 16)) sent ps
    moves next ps g = subst (λ (n : ℕ). Moves st (counting st next (n % 16)) sent ps) (sym wdt-is) g

    -- a refusal is about a field, and tells the place where frame says that it begins
    pub refusing : (a : Alarm) (field : Field) (place : ℕ) → Tells field place → J (refusal a field) (refused s (alarm_number a) place)
    unfolding finished refused laid
    refusing a field place at =
        record { same = record { alarm = refl; place = at.told; next = moves (latched st (alarm_number a)) _ (goes_latched sent st facts on (alarm_number a)); body = λ k old. quiet_at sheet m c k old form; memory = quiet_keeps form c m ∙ sym (stored_none (cells h.regions) m whole) } }

    -- a judgement known otherwise
    pub via : {j k : Judgement} {f : Fate} → j ≡ k → J k f → J j f
    via {f = f} e g = subst (λ (x : Judgement). J x f) (sym e) g

    -- a check of both
    pub step : (t b : Bool) (a : Alarm) {field : Field} {place : ℕ} {y : Judgement} {f : Fate} → Tells field place → t ≡ not b → (b ≡ true → J y f)
        → J (pick t (refusal a field) y) (when b f (refused s (alarm_number a) place))
    unfolding pick when
    step t true a {field} {place} {y} {f} at e g = subst (λ (x : Bool). J (pick x (refusal a field) y) f) (sym e) (g refl)
    step t false a {field} {place} {y} {f} at e g = subst (λ (x : Bool). J (pick x (refusal a field) y) (refused s (alarm_number a) place)) (sym e) (refusing a field place at)

    pub found_or : (b : Bool) (a place : ℕ) {y : Judgement} {f : Fate} → (b ≡ true → J y f) → (b ≡ false → J y (refused s a place)) → J y (when b f (refused s a place))
    unfolding when
    found_or true a place g k = g refl
    found_or false a place g k = k refl

    -- a row without octets
    pub quiet : (next : LinkState) (ps : List Piece) → Goes st (counting st next sent) sent ps → J (accepted Quiet next) (fate 0 0 ps [] [])
    unfolding finished laid
    quiet next ps g =
        record { same = record { alarm = refl; place = whole_at.told; next = moves next _ g; body = λ k old. quiet_at sheet m c k old form; memory = quiet_keeps form c m ∙ sym (stored_none (cells h.regions) m whole) } }

    -- a row with octets
    pub doing : (e : Effect) (next : LinkState) {ps body memory : List Piece} → Goes st (counting st next sent) sent ps
        → ((k old : ℕ) → body_at form e sheet m c k old ≡ laid body k old) → memory_after form e c m ≡ stored memory (cells h.regions) m
        → J (accepted e next) (fate 0 0 ps body memory)
    unfolding finished
    doing e next g b n = record { same = record { alarm = refl; place = whole_at.told; next = moves next _ g; body = b; memory = n } }

    pub unmoved : m ≡ stored [] (cells h.regions) m
    unmoved = sym (stored_none (cells h.regions) m whole)

    pub kept : Goes st (counting st st sent) sent []
    kept = goes_kept sent st facts on

    -- a carrier's reply: its fields again, as one piece, and its data from a place on
    pub record Lays (by : Carrier) (echo : Piece) (from : ℕ) : Type 0 where
      pub lies : (octets : List ℕ) (k old : ℕ) → carried_at form by octets c k old ≡ laid (echo ∷ piece from octets ∷ []) k old
      pub begins : data_from form by ≡ from

    -- a span of memory
    module _ (by : Carrier) (echo : Piece) (from : ℕ) (p : Lays by echo from) where
      own : (n : ℕ) → part c (data_from form by) n ≡ take n (drop from c)
      unfolding part
      own n = ap (λ (k : ℕ). take n (drop k c)) p.begins

      moved_body : (writes : Bool) (a n : ℕ) → has_all mapped (cells h.regions) a n ≡ true → (k old : ℕ)
          → body_at form (moved writes by (span_place (map as_region h.regions) a n) n) sheet m c k old
          ≡ laid (echo ∷ data_piece writes from (cells h.regions) m c a n ∷ []) k old
      unfolding moved
      moved_body false a n q k old =
          reads_at sheet m c k old form by (span_place (map as_region h.regions) a n) n
          ∙ ap (λ (x : List ℕ). carried_at form by x c k old) (world.reads a n q) ∙ p.lies (held (cells h.regions) m a n) k old
      moved_body true a n q k old =
          writes_at sheet m c k old form by (span_place (map as_region h.regions) a n) n
          ∙ ap (λ (x : List ℕ). carried_at form by x c k old) (own n) ∙ p.lies (take n (drop from c)) k old

      moved_memory : (writes : Bool) (a n : ℕ) → data_from form by + n ≤ body_end form h.l → has_all mapped (cells h.regions) a n ≡ true
          → memory_after form (moved writes by (span_place (map as_region h.regions) a n) n) c m ≡ stored (written writes from c a n) (cells h.regions) m
      unfolding moved
      moved_memory false a n l q = reads_keep form c m by (span_place (map as_region h.regions) a n) n ∙ unmoved
      moved_memory true a n l q =
          let e = p.begins in
          let w = end_within form h.l in
          writes_store form c m by (span_place (map as_region h.regions) a n) n
          ∙ ap (put_at m (span_place (map as_region h.regions) a n)) (own n)
          ∙ world.writes a n (take n (drop from c)) q (simp (length-take, length-drop) (omega arith))

      pub granted_row : (writes : Bool) (right : ℕ → Bool) (a n : ℕ) → ((x : ℕ) → right x ≡ gives_of x (right_of writes st.link))
          → data_from form by + n ≤ body_end form h.l → (x : ℕ) (ns : List ℕ) (vs : List Run) (ks : List Check)
          → J (granted_of writes (map as_region h.regions) by a n st)
          (checked s (rights_check right (cells h.regions) a n ∷ [])
          (row x ns vs ks [] (echo ∷ data_piece writes from (cells h.regions) m c a n ∷ []) (written writes from c a n)))
      unfolding granted_of checked
      granted_row writes right a n same l x ns vs ks =
          let w = right_of writes st.link in
          let rs = map as_region h.regions in
          step _ _ NoRight (subst (Tells (Span (before_of rs w a n))) (sym (before_span right w same h.regions a n)) (span_at (before_of rs w a n))) (ap not (sym (all_span right w same h.regions a n))) (λ t.
          let q = all_span mapped Mapped mapped_is h.regions a n ∙ span_mapped rs w a n (sym (all_span right w same h.regions a n) ∙ t) in
          doing (moved writes by (span_place rs a n) n) st kept (moved_body writes a n q) (moved_memory writes a n l q))

      pub span_row : (writes : Bool) (right : ℕ → Bool) (a n : ℕ) → ((x : ℕ) → right x ≡ gives_of x (right_of writes st.link))
          → data_from form by + n ≤ body_end form h.l → (place : ℕ) → Tells Address place → (x : ℕ) (ns : List ℕ) (vs : List Run) (ks : List Check)
          → J (span_of writes (map as_region h.regions) by a n st)
          (checked s (check (has_all mapped (cells h.regions) a n) 9 place ∷ rights_check right (cells h.regions) a n ∷ [])
          (row x ns vs ks [] (echo ∷ data_piece writes from (cells h.regions) m c a n ∷ []) (written writes from c a n)))
      unfolding span_of checked
      span_row writes right a n same l place at x ns vs ks =
          step _ _ OutOfRange at (ap not (sym (all_span mapped Mapped mapped_is h.regions a n))) (λ q. granted_row writes right a n same l x ns vs ks)

    -- rows that both types have, over what a type's table has of its own; only the code decides the row
    module _ (code : ℕ) (x : ℕ) (ns : List ℕ) (vs : List Run) (ks : List Check) where
      abbrev lay : Layout
      lay = layout_as pdu h

      -- 01 PRM_RD, 02 PRM_WR
      pub param_row : (most : ℕ) → most ≡ h.l - 8 → (echo : Piece) (from : ℕ) → Lays ByParameter echo from
          → (writes : Bool) (right : ℕ → Bool) → ((y : ℕ) → right y ≡ gives_of y (right_of writes st.link))
          → J (parameter_of writes sheet lay st (named form code c)) (checked s (param_checks h s m c most ++ parameter_rights h s m c right)
          (row x ns vs ks [] (echo ∷ data_piece writes from (cells h.regions) m c (param h s m c).address (param h s m c).size ∷ [])
          (written writes from c (param h s m c).address (param h s m c).size)))
      unfolding parameter_of parameter_data checked
      param_row most is echo from lays writes right same =
          let size = (named form code c).size in
          let p = param h s m c in
          let n = number h s m c in
          let same_number : (named form code c).number ≡ n = two_octets c _ in
          let at = ap₂ sought_parameter world.parameters same_number in
          found_or _ 9 _ (λ b.
          via (ap (λ (y : Option Parameter). parameter_data writes (regions_of sheet (length h.regions)) lay st (named form code c) y) (at ∙ param_found h.parameters n b))
          (step _ _ OutOfRange size_at_lem refl (λ e.
          step _ _ OutOfRange size_at_lem (less_most size is) (λ l.
          via (ap (λ (rs : List Region). granted_of writes rs ByParameter p.address p.size st) world.regions)
          (granted_row ByParameter echo from lays writes right p.address p.size same
          (let q = eqb-true size p.size e in let r = leb-true size _ l in parameter_room form p.size h.l (pdu_sized pdu h.l world.long good) (omega arith)) x ns vs ks)))))
          (λ b.
          via (ap (λ (y : Option Parameter). parameter_data writes (regions_of sheet (length h.regions)) lay st (named form code c) y) (at ∙ param_missing h.parameters n b))
          (refusing OutOfRange Number _ number_at))

      -- 03 ID_RD
      pub item_row : (size most : ℕ) → (named form code c).count ≡ size → most ≡ h.l - 8 → (echo : Piece) (from : ℕ)
          → ((at n k old : ℕ) → body_at form (Identifies at n) sheet m c k old ≡ laid (echo ∷ piece from (part sheet at n) ∷ []) k old)
          → J (item_of sheet lay st (named form code c)) (checked s (item_checks h s m c size most) (row x ns vs ks [] (echo ∷ piece from (item_part h s m c size) ∷ []) []))
      unfolding item_of item_data checked
      item_row k most two is echo from lies =
          let n = (named form code c).item in
          let o = (named form code c).offset in
          let size = (ident h s m c).length in
          let w = world.items n in
          found_or _ 9 _ (λ b.
          via (ap (λ (y : Option Item). item_data lay st (named form code c) y) (w.found b))
          (step _ _ OutOfRange count_at (ap (λ (i : ℕ). eqb i 0) two ∙ none_not k) (λ d.
          step _ _ OutOfRange count_at (ap (λ (i : ℕ). ltb size (o + i)) two ∙ less_not size (o + k)) (λ e.
          step _ _ OutOfRange count_at (ap (ltb _) two ∙ less_most k is) (λ f.
          via (ap (λ (i : ℕ). accepted (Identifies (w.at + o) i) st) two)
          (doing (Identifies (w.at + o) k) st kept
          (λ i old. lies (w.at + o) k i old ∙ ap (λ (y : List ℕ). laid (echo ∷ piece from y ∷ []) i old) (w.own b o k (leb-true (o + k) size e)))
          (identifies_keep form c m (w.at + o) k ∙ unmoved)))))))
          (λ b. via (ap (λ (y : Option Item). item_data lay st (named form code c) y) (w.missing b)) (refusing OutOfRange ItemField _ item_at_lem))

      -- 06 ALM_CLR
      pub clear_row : (mode : ℕ) → (named form code c).alarm_mode ≡ mode
          → J (clear_of st (named form code c)) (checked s (check (eqb mode 0) 9 4 ∷ []) (row x ns vs ks (piece 8 (0 ∷ []) ∷ piece 9 (0 ∷ []) ∷ []) [] []))
      unfolding clear_of checked
      clear_row mode is = step _ _ OutOfRange alarm_mode_at (ap (λ (n : ℕ). not (eqb n 0)) is) (λ z. quiet (cleared st) _ (goes_cleared sent st facts on))

      -- 0E CONNECT, as far as both have it
      pub connect_row : (more : List Check) (r : Row)
          → (((named form code c).com_mod ≡ 0) ⊎ (((named form code c).com_mod ≡ 2) ⊎ ((named form code c).com_mod ≡ 6))
          → J (pick (not (profile_fits lay (named form code c).profile)) (refusal OutOfRange Profile)
          (accepted Connects (connected st (pick (eqb ((named form code c).com_mod / 2 % 2) 1) 3 2) ((named form code c).com_mod / 4 % 4) (named form code c).com_time)))
          (checked s more r))
          → J (connect_of lay st (named form code c)) (checked s (connect_checks h s m c more) r)
      unfolding connect_of checked
      connect_row more r last =
          let mode = (named form code c).com_mod in
          let time = (named form code c).com_time in
          step _ _ OutOfRange version_at refl (λ a.
          step _ _ OutOfRange com_mod_at (ap not (com_mod_lem mode)) (λ b.
          let three = com_mods mode b in
          step _ _ OutOfRange com_time_at (ap not (com_time_lem mode time three)) (λ d.
          last three)))
