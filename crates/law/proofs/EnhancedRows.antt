-- The enhanced type's table, row by row: what the machine does for each code.
use mathlib.Core.Bool.{Bool, true, false, not, ◌||◌}
use mathlib.Core.Path.{◌≡◌, refl, ap, ap₂, ◌∙◌}
use mathlib.Core.List.{List, [], ◌∷◌, ◌++◌, map}
use Prim.Native.Nat.{ℕ, ◌-◌, ◌*◌}
use borrow.Author.Tests.{ne_eqb, leb-true}
use lib.Dec.{eqb, ltb}
use lib.ListN.{length, take, drop}
use Rattle.octets.specs.Parts.{part}
use Rattle.octets.specs.Pick.{pick}
use Rattle.frame.proofs.Bodies.{body_at, parameter_at_lem, memory_at, parameter_data_lem, memory_data, identifies_at, alarms_at_lem, connects_at}
use Rattle.frame.proofs.Kept.{alarms_keep, connects_keep}
use Rattle.frame.specs.Unnamed.{names_of, is_named as is_named_there, stray_as}
use Rattle.frame.proofs.Names.{enhanced_nop, enhanced_prm_rd, enhanced_prm_wr, enhanced_id_rd, enhanced_alm_rd, enhanced_alm_clr, enhanced_sync_set, enhanced_connect, enhanced_disconnect, enhanced_mem_rd, enhanced_mem_wr}
use Rattle.frame.proofs.Named.{named, two_enhanced, is_enhanced, whole_at, count_at, mode_at, address_at, profile_at, alarm_mode_at}
use Rattle.frame.proofs.Rooms.{memory_room}
use Rattle.link.specs.Steps.{synced, dropped}
use Rattle.link.specs.Stored.{octets_of}
use Rattle.link.specs.declared.state.LinkState.{LinkState}
use Rattle.link.proofs.Facts.{Facts}
use Rattle.machine.specs.Codes.{is_known, is_allowed}
use Rattle.machine.specs.Connecting.{profile_fits, connect_of}
use Rattle.machine.specs.Judgements.{Judgement}
use Rattle.machine.specs.Judging.{alarms_of, element_of, memory_of, data_of, judge_of}
use Rattle.machine.specs.Spans.{right_of, span_of}
use Rattle.machine.specs.declared.codes.Alarm.TheVariants.{OutOfRange}
use Rattle.machine.specs.declared.words.Carrier.TheVariants.{Parameter, Memory}
use Rattle.machine.specs.declared.words.Effect.TheVariants.{Identifies, Alarms, Connects}
use Rattle.regions.specs.Region.{gives_of}
use Rattle.regions.specs.declared.Region.{Region}
use Rattle.sheet.specs.declared.walk.Form.TheVariants.{Enhanced}
use Rattle.sheet.specs.declared.walk.Layout.{Layout}
use Rattle.law.specs.Words.{when, one_of, Piece, piece, laid}
use Rattle.law.specs.Sheet.{enhanced, Sheet, FiveLengths, allows as most}
use Rattle.law.specs.State.{link}
use Rattle.law.specs.Memory.{cells, readable, writable}
use Rattle.law.specs.Table.{Run, Row, row, head_named, is_named, enhanced_table, memory_checks as mem_checks, memory_rights, count, address, n as span, element}
use Rattle.law.specs.Exchange.{Fate, code, checked, judged}
use Rattle.law.proofs.Codes.{by_code, wdt_same, Is, known, unknown, read_is, write_is, allowing}
use Rattle.law.proofs.Fields.{less_not, none_not, two_octets, four_octets, elements}
use Rattle.law.proofs.Goes.{connect_goes, goes_dropped, goes_synced}
use Rattle.law.proofs.Laid.{when_no, laid_one, laid_two}
use Rattle.law.proofs.Layouts.{layout_as, as_region}
use Rattle.law.proofs.World.{nth, piece_at, data_piece, written, World}
use Rattle.law.proofs.Rows.{Lays, pdu_sized, sent, via, step, quiet, doing, unmoved, kept, span_row, param_row, item_row, clear_row, connect_row}

-- where a list's last run begins
abbrev last_of : List Run → ℕ
last_of [] = 0
last_of (r ∷ []) = r.first
last_of (r ∷ q ∷ rs) = last_of (q ∷ rs)

not_known : (n : ℕ) → (n ≡ 0x00 → ⊥) → (n ≡ 0x01 → ⊥) → (n ≡ 0x02 → ⊥) → (n ≡ 0x03 → ⊥) → (n ≡ 0x05 → ⊥) → (n ≡ 0x06 → ⊥) → (n ≡ 0x0D → ⊥) → (n ≡ 0x0E → ⊥) → (n ≡ 0x0F → ⊥) → (n ≡ 0x1D → ⊥) → (n ≡ 0x1E → ⊥) → is_known Enhanced n ≡ false
unfolding is_known
not_known n z0 z1 z2 z3 z4 z5 z6 z7 z8 z9 z10 =
    ap₂ ◌||◌ (ap₂ ◌||◌ (ap₂ ◌||◌ (ap₂ ◌||◌ (ap₂ ◌||◌ (ap₂ ◌||◌ (ap₂ ◌||◌ (ap₂ ◌||◌ (ap₂ ◌||◌ (ne_eqb n 0x00 z0) (ne_eqb n 0x01 z1)) (ne_eqb n 0x02 z2)) (ne_eqb n 0x03 z3)) (ne_eqb n 0x05 z4)) (ne_eqb n 0x06 z5)) (ne_eqb n 0x0D z6)) (ne_eqb n 0x0E z7)) (ne_eqb n 0x0F z8)) (ap₂ ◌||◌ (ne_eqb n 0x1D z9) (ne_eqb n 0x1E z10))

module _ (h : Sheet) (sheet : List ℕ) (st : LinkState) (m c : List ℕ) (facts : Facts h.l (most h) st) (on : st.link ≡ 0 → ⊥) (world : World h sheet m)
    (good : FiveLengths h.l) (asked : length c ≡ h.l) where
  abbrev s : List ℕ
  s = octets_of st

  abbrev lay : Layout
  lay = layout_as enhanced h

  abbrev rows : List Row
  rows = enhanced_table h s m c

  abbrev mn : ℕ
  mn = sent enhanced h sheet st m c

  -- a row of the table by its place, its fields again, and where its data begins
  abbrev row_at : ℕ → Row
  row_at i = nth rows i

  abbrev echo_in : ℕ → Piece
  echo_in i = piece_at (row_at i).body 0

  abbrev from_in : ℕ → ℕ
  from_in i = (piece_at (row_at i).body 1).first

  abbrev Here : Judgement → Fate → Type 0
  Here = Is enhanced h sheet st m c facts on world good asked

  parameter_lays : Lays enhanced h sheet st m c facts on world good asked (wdt_same enhanced (code c) c) Parameter (echo_in 1) (from_in 1)
  unfolding part
  parameter_lays = record { lies = λ octets k old. parameter_at_lem sheet m c k old octets ∙ laid_two _ _ k old; begins = parameter_data_lem }

  memory_lays : Lays enhanced h sheet st m c facts on world good asked (wdt_same enhanced (code c) c) Memory (echo_in 9) (from_in 9)
  unfolding part
  memory_lays = record { lies = λ octets k old. memory_at sheet m c k old octets ∙ laid_two _ _ k old; begins = memory_data }

  item_lies : (at n k old : ℕ) → body_at Enhanced (Identifies at n) sheet m c k old ≡ laid (echo_in 3 ∷ piece (from_in 3) (part sheet at n) ∷ []) k old
  unfolding part
  item_lies at n k old = identifies_at sheet m c k old at n ∙ laid_two _ _ k old

  alarms_body : (k old : ℕ) → body_at Enhanced (Alarms st.latches.command st.latches.communication) sheet m c k old ≡ laid (row_at 4).body k old
  unfolding octets_of
  alarms_body k old = alarms_at_lem sheet m c k old st.latches.command st.latches.communication ∙ laid_one _ k old

  connects_body : (k old : ℕ) → body_at Enhanced Connects sheet m c k old ≡ laid (row_at 7).body k old
  unfolding part
  connects_body k old = connects_at sheet m c k old ∙ laid_one _ k old

  module _ (k : ℕ) where
    -- 05 ALM_RD
    alarms_row : Here (alarms_of lay st (named Enhanced k c)) (checked s (take 2 (row_at 4).checks) (row_at 4))
    unfolding alarms_of checked
    alarms_row =
        step enhanced h sheet st m c facts on world good asked (wdt_same enhanced (code c) c) _ _ OutOfRange whole_at (less_not h.l _) (λ l.
        step enhanced h sheet st m c facts on world good asked (wdt_same enhanced (code c) c) _ _ OutOfRange alarm_mode_at (ap (λ (x : ℕ). not (eqb x 0)) (two_enhanced c _ ∙ two_octets c _)) (λ z.
        doing enhanced h sheet st m c facts on world good asked (wdt_same enhanced (code c) c) (Alarms st.latches.command st.latches.communication) st (kept enhanced h sheet st m c facts on world good asked (wdt_same enhanced (code c) c)) alarms_body
        (alarms_keep Enhanced c m st.latches.command st.latches.communication ∙ unmoved enhanced h sheet st m c facts on world good asked (wdt_same enhanced (code c) c))))

    -- 0E CONNECT
    connects_row : one_of (link s) (row_at 7).links ≡ true → Here (connect_of lay st (named Enhanced k c)) (checked s (take 4 (row_at 7).checks) (row_at 7))
    unfolding profile_fits checked
    connects_row ok =
        connect_row enhanced h sheet st m c facts on world good asked (wdt_same enhanced (code c) c) k 0 [] [] [] (take 1 (drop 3 (row_at 7).checks)) (row_at 7) (λ three.
        step enhanced h sheet st m c facts on world good asked (wdt_same enhanced (code c) c) _ _ OutOfRange profile_at (ap (λ (x : ℕ). not (eqb x h.profile)) (is_enhanced _)) (λ e.
        doing enhanced h sheet st m c facts on world good asked (wdt_same enhanced (code c) c) Connects _ (connect_goes mn st facts on _ _ three ok) connects_body (connects_keep Enhanced c m ∙ unmoved enhanced h sheet st m c facts on world good asked (wdt_same enhanced (code c) c))))

    -- 1D MEM_RD, 1E MEM_WR
    mem_row : (writes : Bool) (right : ℕ → Bool) → ((x : ℕ) → right x ≡ gives_of x (right_of writes st.link))
        → Here (memory_of writes sheet lay st (named Enhanced k c)) (checked s (mem_checks h s m c ++ memory_rights h s m c right)
        (row 0 [] [] [] [] (echo_in 9 ∷ data_piece writes (from_in 9) (cells h.regions) m c (address h s m c) (span h s m c) ∷ [])
        (written writes (from_in 9) c (address h s m c) (span h s m c))))
    unfolding memory_of checked
    mem_row writes right same =
        let d = named Enhanced k c in
        let n = span h s m c in
        let x = d.offset in
        let el : element_of d.mode ≡ element x = ap element_of (is_enhanced x) ∙ elements x in
        let sp : d.count * element_of d.mode ≡ n = ap₂ ◌*◌ (two_enhanced c _ ∙ two_octets c _) el in
        step enhanced h sheet st m c facts on world good asked (wdt_same enhanced (code c) c) _ _ OutOfRange mode_at (ap (λ (n : ℕ). eqb n 0) el ∙ none_not (element x)) (λ a.
        step enhanced h sheet st m c facts on world good asked (wdt_same enhanced (code c) c) _ _ OutOfRange count_at (ap (λ (n : ℕ). eqb n 0) sp ∙ none_not n) (λ b.
        step enhanced h sheet st m c facts on world good asked (wdt_same enhanced (code c) c) _ _ OutOfRange count_at (ap (ltb _) sp ∙ less_not _ n) (λ f.
        via enhanced h sheet st m c facts on world good asked (wdt_same enhanced (code c) c) (ap (λ (rs : List Region). span_of writes rs Memory d.address (d.count * element_of d.mode) st) world.regions)
        (via enhanced h sheet st m c facts on world good asked (wdt_same enhanced (code c) c) (ap₂ (λ (at n : ℕ). span_of writes (map as_region h.regions) Memory at n st) (is_enhanced _ ∙ four_octets c _) sp)
        (span_row enhanced h sheet st m c facts on world good asked (wdt_same enhanced (code c) c) Memory (echo_in 9) (from_in 9) memory_lays writes right (address h s m c) n same
        (memory_room Enhanced n h.l (pdu_sized enhanced h.l world.long good) (leb-true 1 n b) (leb-true n _ f)) _ address_at 0 [] [] [])))))

  -- the data that MEM_WR names
  mem_named : (i : ℕ) → is_named_there (names_of Enhanced 0x1E c) i ≡ is_named (head_named enhanced ++ (row_at 10).named) i
  mem_named i =
      let d = named Enhanced 0x1E c in
      let x = d.offset in
      let runs = (row_at 10).named in
      let sp : d.count * element_of d.mode ≡ span h s m c = ap₂ ◌*◌ (two_enhanced c _ ∙ two_octets c _) (ap element_of (is_enhanced x) ∙ elements x) in
      enhanced_mem_wr c i ∙ ap (λ (n : ℕ). is_named (head_named enhanced ++ take 1 runs ++ record { first = last_of runs; many = n } ∷ []) i) sp

  pub judge_enhanced : (n : ℕ) → Here (judge_of sheet lay st (named Enhanced n c) (stray_as Enhanced lay.release n c)) (judged s n rows)
  unfolding is_known is_allowed data_of judged pick when checked
  judge_enhanced =
      let row : (k : ℕ) → _ = λ k. known enhanced h sheet st m c facts on world good asked rows k in
      let links = allowing st facts on in
      by_code (λ n. Here (judge_of sheet lay st (named Enhanced n c) (stray_as Enhanced lay.release n c)) (judged s n rows))
      (row 0x00 _ (row_at 0) 0 refl (links 0x00 (1 ∷ 2 ∷ 3 ∷ []) refl refl refl) refl refl refl refl (enhanced_nop c) refl (λ a. quiet enhanced h sheet st m c facts on world good asked (wdt_same enhanced (code c) c) st [] (kept enhanced h sheet st m c facts on world good asked (wdt_same enhanced (code c) c))))
      (row 0x01 _ (row_at 1) 3 refl (links 0x01 (2 ∷ 3 ∷ []) refl refl refl) refl refl refl refl (enhanced_prm_rd c) refl (λ a. param_row enhanced h sheet st m c facts on world good asked (wdt_same enhanced (code c) c) 0x01 0 [] [] [] (h.l - 8) refl (echo_in 1) (from_in 1) parameter_lays false readable (read_is st facts on)))
      (row 0x02 _ (row_at 2) 3 refl (links 0x02 (2 ∷ 3 ∷ []) refl refl refl) refl refl refl refl (enhanced_prm_wr c) refl (λ a. param_row enhanced h sheet st m c facts on world good asked (wdt_same enhanced (code c) c) 0x02 0 [] [] [] (h.l - 8) refl (echo_in 1) (from_in 1) parameter_lays true (writable (link s)) (write_is st facts on)))
      (row 0x03 _ (row_at 3) 4 refl (links 0x03 (2 ∷ 3 ∷ []) refl refl refl) refl refl refl refl (enhanced_id_rd c) refl (λ a. item_row enhanced h sheet st m c facts on world good asked (wdt_same enhanced (code c) c) 0x03 0 [] [] [] (count h s m c) (h.l - 8) (two_enhanced c _ ∙ two_octets c _) refl (echo_in 3) (from_in 3) item_lies))
      (row 0x05 _ (row_at 4) 2 refl (links 0x05 (2 ∷ 3 ∷ []) refl refl refl) refl refl refl refl (enhanced_alm_rd c) refl (λ a. alarms_row 0x05))
      (row 0x06 _ (row_at 5) 1 refl (links 0x06 (2 ∷ 3 ∷ []) refl refl refl) refl refl refl refl (enhanced_alm_clr c) refl (λ a. clear_row enhanced h sheet st m c facts on world good asked (wdt_same enhanced (code c) c) 0x06 0 [] [] [] _ (two_enhanced c _ ∙ two_octets c _)))
      (row 0x0D _ (row_at 6) 0 refl (links 0x0D (2 ∷ []) refl refl refl) refl refl refl refl (enhanced_sync_set c) refl (λ a. quiet enhanced h sheet st m c facts on world good asked (wdt_same enhanced (code c) c) (synced st) _ (goes_synced mn st facts on a)))
      (row 0x0E _ (row_at 7) 4 refl (links 0x0E (1 ∷ []) refl refl refl) refl refl refl refl (enhanced_connect c) refl (λ a. connects_row 0x0E a))
      (row 0x0F _ (row_at 8) 0 refl (links 0x0F (1 ∷ 2 ∷ 3 ∷ []) refl refl refl) refl refl refl refl (enhanced_disconnect c) refl (λ a. quiet enhanced h sheet st m c facts on world good asked (wdt_same enhanced (code c) c) (dropped st) _ (goes_dropped mn st facts on)))
      (row 0x1D _ (row_at 9) 4 refl (links 0x1D (2 ∷ 3 ∷ []) refl refl refl) refl refl refl refl (enhanced_mem_rd c) refl (λ a. mem_row 0x1D false readable (read_is st facts on)))
      (row 0x1E _ (row_at 10) 4 refl (links 0x1E (2 ∷ 3 ∷ []) refl refl refl) refl refl refl refl mem_named refl (λ a. mem_row 0x1E true (writable (link s)) (write_is st facts on)))
      (λ n z0 z1 z2 z3 z4 z5 z6 z7 z8 z9 z10.
      unknown enhanced h sheet st m c facts on world good asked rows n (not_known n z0 z1 z2 z3 z4 z5 z6 z7 z8 z9 z10)
      (when_no _ _ (ne_eqb n 0x00 z0) ∙ when_no _ _ (ne_eqb n 0x01 z1) ∙ when_no _ _ (ne_eqb n 0x02 z2) ∙ when_no _ _ (ne_eqb n 0x03 z3) ∙ when_no _ _ (ne_eqb n 0x05 z4) ∙ when_no _ _ (ne_eqb n 0x06 z5) ∙ when_no _ _ (ne_eqb n 0x0D z6) ∙ when_no _ _ (ne_eqb n 0x0E z7) ∙ when_no _ _ (ne_eqb n 0x0F z8) ∙ when_no _ _ (ne_eqb n 0x1D z9) ∙ when_no _ _ (ne_eqb n 0x1E z10)))
