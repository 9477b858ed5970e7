-- The short type's table, row by row: what the machine does for each code.
use mathlib.Core.Bool.{true, false, not, ◌||◌}
use mathlib.Core.Path.{◌≡◌, refl, ap, ap₂, ◌∙◌}
use mathlib.Core.List.{List, [], ◌∷◌}
use Prim.Native.Nat.{ℕ, ◌-◌}
use native.Mathlib.Omega.{arith}
use borrow.Author.Tests.{ne_eqb, le-ltb}
use lib.Dec.{eqb}
use lib.ListN.{length, take}
use Rattle.octets.specs.Parts.{part}
use Rattle.octets.specs.Pick.{pick}
use Rattle.octets.proofs.Pick.{pick_no}
use Rattle.frame.proofs.Bodies.{body_at, short_parameter_at, short_parameter_data, short_identifies_at, short_alarms_at, short_connects_at}
use Rattle.frame.proofs.Kept.{alarms_keep, connects_keep}
use Rattle.frame.specs.Unnamed.{stray_as}
use Rattle.frame.proofs.Names.{short_nop, short_prm_rd, short_prm_wr, short_id_rd, short_alm_rd, short_alm_clr, short_sync_set, short_connect, short_disconnect}
use Rattle.frame.proofs.Named.{named, one_short, alarm_mode_at}
use Rattle.link.specs.Steps.{synced, dropped}
use Rattle.link.specs.Stored.{octets_of}
use Rattle.link.specs.declared.state.LinkState.{LinkState}
use Rattle.link.proofs.Facts.{Facts}
use Rattle.machine.specs.Codes.{is_known, is_allowed}
use Rattle.machine.specs.Connecting.{profile_fits, connect_of}
use Rattle.machine.specs.Judgements.{Judgement}
use Rattle.machine.specs.Judging.{alarms_of, data_of, judge_of}
use Rattle.machine.specs.declared.codes.Alarm.TheVariants.{OutOfRange}
use Rattle.machine.specs.declared.words.Carrier.TheVariants.{Parameter}
use Rattle.machine.specs.declared.words.Effect.TheVariants.{Identifies, Alarms, Connects}
use Rattle.sheet.specs.declared.walk.Form.TheVariants.{Short}
use Rattle.sheet.specs.declared.walk.Layout.{Layout}
use Rattle.law.specs.Words.{when, one_of, Piece, piece, laid}
use Rattle.law.specs.Sheet.{short, Sheet, allows as most}
use Rattle.law.specs.State.{link}
use Rattle.law.specs.Memory.{readable, writable}
use Rattle.law.specs.Table.{Row, short_table, short_size}
use Rattle.law.specs.Exchange.{Fate, code, checked, judged}
use Rattle.law.proofs.Codes.{by_code, wdt_same, Is, known, unknown, read_is, write_is, allowing}
use Rattle.law.proofs.Goes.{connect_goes, goes_dropped, goes_synced}
use Rattle.law.proofs.Laid.{when_no, laid_one, laid_two}
use Rattle.law.proofs.Layouts.{layout_as}
use Rattle.law.proofs.World.{nth, piece_at, World}
use Rattle.law.proofs.Rows.{Lays, sent, via, step, quiet, doing, unmoved, kept, param_row, item_row, clear_row, connect_row}

not_known : (n : ℕ) → (n ≡ 0x00 → ⊥) → (n ≡ 0x01 → ⊥) → (n ≡ 0x02 → ⊥) → (n ≡ 0x03 → ⊥) → (n ≡ 0x05 → ⊥) → (n ≡ 0x06 → ⊥) → (n ≡ 0x0D → ⊥) → (n ≡ 0x0E → ⊥) → (n ≡ 0x0F → ⊥) → is_known Short n ≡ false
unfolding is_known
not_known n z0 z1 z2 z3 z4 z5 z6 z7 z8 =
    ap₂ ◌||◌ (ap₂ ◌||◌ (ap₂ ◌||◌ (ap₂ ◌||◌ (ap₂ ◌||◌ (ap₂ ◌||◌ (ap₂ ◌||◌ (ap₂ ◌||◌ (ap₂ ◌||◌ (ne_eqb n 0x00 z0) (ne_eqb n 0x01 z1)) (ne_eqb n 0x02 z2)) (ne_eqb n 0x03 z3)) (ne_eqb n 0x05 z4)) (ne_eqb n 0x06 z5)) (ne_eqb n 0x0D z6)) (ne_eqb n 0x0E z7)) (ne_eqb n 0x0F z8)) refl

module _ (h : Sheet) (sheet : List ℕ) (st : LinkState) (m c : List ℕ) (facts : Facts h.l (most h) st) (on : st.link ≡ 0 → ⊥) (world : World h sheet m)
    (good : h.l ≡ 16) (asked : length c ≡ h.l) where
  abbrev s : List ℕ
  s = octets_of st

  abbrev lay : Layout
  lay = layout_as short h

  abbrev rows : List Row
  rows = short_table h s m c

  -- eight octets of data at most
  eight : 8 ≡ h.l - 8
  eight = omega arith

  abbrev mn : ℕ
  mn = sent short h sheet st m c

  -- a row of the table by its place, its fields again, and where its data begins
  abbrev row_at : ℕ → Row
  row_at i = nth rows i

  abbrev echo_in : ℕ → Piece
  echo_in i = piece_at (row_at i).body 0

  abbrev from_in : ℕ → ℕ
  from_in i = (piece_at (row_at i).body 1).first

  abbrev Here : Judgement → Fate → Type 0
  Here = Is short h sheet st m c facts on world good asked

  parameter_lays : Lays short h sheet st m c facts on world good asked (wdt_same short (code c) c) Parameter (echo_in 1) (from_in 1)
  unfolding part
  parameter_lays = record { lies = λ octets k old. short_parameter_at sheet m c k old octets ∙ laid_two _ _ k old; begins = short_parameter_data }

  item_lies : (at n k old : ℕ) → body_at Short (Identifies at n) sheet m c k old ≡ laid (echo_in 3 ∷ piece (from_in 3) (part sheet at n) ∷ []) k old
  unfolding part
  item_lies at n k old = short_identifies_at sheet m c k old at n ∙ laid_two _ _ k old

  alarms_body : (k old : ℕ) → body_at Short (Alarms st.latches.command st.latches.communication) sheet m c k old ≡ laid (row_at 4).body k old
  unfolding octets_of
  alarms_body k old = short_alarms_at sheet m c k old st.latches.command st.latches.communication ∙ laid_one _ k old

  connects_body : (k old : ℕ) → body_at Short Connects sheet m c k old ≡ laid (row_at 7).body k old
  unfolding part
  connects_body k old = short_connects_at sheet m c k old ∙ laid_one _ k old

  module _ (k : ℕ) where
    -- 05 ALM_RD
    alarms_row : Here (alarms_of lay st (named Short k c)) (checked s (take 1 (row_at 4).checks) (row_at 4))
    unfolding alarms_of checked
    alarms_row =
        via short h sheet st m c facts on world good asked (wdt_same short (code c) c) (pick_no _ _ (le-ltb h.l 16 (omega arith)))
        (step short h sheet st m c facts on world good asked (wdt_same short (code c) c) _ _ OutOfRange alarm_mode_at (ap (λ (x : ℕ). not (eqb x 0)) (one_short c _)) (λ z.
        doing short h sheet st m c facts on world good asked (wdt_same short (code c) c) (Alarms st.latches.command st.latches.communication) st (kept short h sheet st m c facts on world good asked (wdt_same short (code c) c)) alarms_body
        (alarms_keep Short c m st.latches.command st.latches.communication ∙ unmoved short h sheet st m c facts on world good asked (wdt_same short (code c) c))))

    -- 0E CONNECT
    connects_row : one_of (link s) (row_at 7).links ≡ true → Here (connect_of lay st (named Short k c)) (checked s (take 3 (row_at 7).checks) (row_at 7))
    unfolding profile_fits checked
    connects_row ok =
        connect_row short h sheet st m c facts on world good asked (wdt_same short (code c) c) k 0 [] [] [] [] (row_at 7) (λ three.
        via short h sheet st m c facts on world good asked (wdt_same short (code c) c) (pick_no _ _ refl)
        (doing short h sheet st m c facts on world good asked (wdt_same short (code c) c) Connects _ (connect_goes mn st facts on _ _ three ok) connects_body (connects_keep Short c m ∙ unmoved short h sheet st m c facts on world good asked (wdt_same short (code c) c))))

  pub judge_short : (n : ℕ) → Here (judge_of sheet lay st (named Short n c) (stray_as Short lay.release n c)) (judged s n rows)
  unfolding is_known is_allowed data_of judged pick when checked
  judge_short =
      let row : (k : ℕ) → _ = λ k. known short h sheet st m c facts on world good asked rows k in
      let links = allowing st facts on in
      by_code (λ n. Here (judge_of sheet lay st (named Short n c) (stray_as Short lay.release n c)) (judged s n rows))
      (row 0x00 _ (row_at 0) 0 refl (links 0x00 (1 ∷ 2 ∷ 3 ∷ []) refl refl refl) refl refl refl refl (short_nop c) refl (λ a. quiet short h sheet st m c facts on world good asked (wdt_same short (code c) c) st [] (kept short h sheet st m c facts on world good asked (wdt_same short (code c) c))))
      (row 0x01 _ (row_at 1) 3 refl (links 0x01 (2 ∷ 3 ∷ []) refl refl refl) refl refl refl refl (short_prm_rd c) refl (λ a. param_row short h sheet st m c facts on world good asked (wdt_same short (code c) c) 0x01 0 [] [] [] 8 eight (echo_in 1) (from_in 1) parameter_lays false readable (read_is st facts on)))
      (row 0x02 _ (row_at 2) 3 refl (links 0x02 (2 ∷ 3 ∷ []) refl refl refl) refl refl refl refl (short_prm_wr c) refl (λ a. param_row short h sheet st m c facts on world good asked (wdt_same short (code c) c) 0x02 0 [] [] [] 8 eight (echo_in 1) (from_in 1) parameter_lays true (writable (link s)) (write_is st facts on)))
      (row 0x03 _ (row_at 3) 4 refl (links 0x03 (2 ∷ 3 ∷ []) refl refl refl) refl refl refl refl (short_id_rd c) refl (λ a. item_row short h sheet st m c facts on world good asked (wdt_same short (code c) c) 0x03 0 [] [] [] (short_size h s m c) 8 (one_short c _) eight (echo_in 3) (from_in 3) item_lies))
      (row 0x05 _ (row_at 4) 1 refl (links 0x05 (2 ∷ 3 ∷ []) refl refl refl) refl refl refl refl (short_alm_rd c) refl (λ a. alarms_row 0x05))
      (row 0x06 _ (row_at 5) 1 refl (links 0x06 (2 ∷ 3 ∷ []) refl refl refl) refl refl refl refl (short_alm_clr c) refl (λ a. clear_row short h sheet st m c facts on world good asked (wdt_same short (code c) c) 0x06 0 [] [] [] _ (one_short c _)))
      (row 0x0D _ (row_at 6) 0 refl (links 0x0D (2 ∷ []) refl refl refl) refl refl refl refl (short_sync_set c) refl (λ a. quiet short h sheet st m c facts on world good asked (wdt_same short (code c) c) (synced st) _ (goes_synced mn st facts on a)))
      (row 0x0E _ (row_at 7) 3 refl (links 0x0E (1 ∷ []) refl refl refl) refl refl refl refl (short_connect c) refl (λ a. connects_row 0x0E a))
      (row 0x0F _ (row_at 8) 0 refl (links 0x0F (1 ∷ 2 ∷ 3 ∷ []) refl refl refl) refl refl refl refl (short_disconnect c) refl (λ a. quiet short h sheet st m c facts on world good asked (wdt_same short (code c) c) (dropped st) _ (goes_dropped mn st facts on)))
      (unknown short h sheet st m c facts on world good asked rows 0x1D refl refl)
      (unknown short h sheet st m c facts on world good asked rows 0x1E refl refl)
      (λ n z0 z1 z2 z3 z4 z5 z6 z7 z8 z9 z10.
      unknown short h sheet st m c facts on world good asked rows n (not_known n z0 z1 z2 z3 z4 z5 z6 z7 z8)
      (when_no _ _ (ne_eqb n 0x00 z0) ∙ when_no _ _ (ne_eqb n 0x01 z1) ∙ when_no _ _ (ne_eqb n 0x02 z2) ∙ when_no _ _ (ne_eqb n 0x03 z3) ∙ when_no _ _ (ne_eqb n 0x05 z4) ∙ when_no _ _ (ne_eqb n 0x06 z5) ∙ when_no _ _ (ne_eqb n 0x0D z6) ∙ when_no _ _ (ne_eqb n 0x0E z7) ∙ when_no _ _ (ne_eqb n 0x0F z8)))
