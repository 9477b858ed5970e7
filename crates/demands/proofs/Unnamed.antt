-- Request 7: of the octets that the short type does not name nothing shows in an exchange.
--     row_same        what a code's row says goes by the octets that it names
--     fate_same       and so the whole fate
use mathlib.Core.Logic.{⊎_elim}
use mathlib.Core.Bool.{Bool, true, false, not, ◌&&◌}
use mathlib.Core.Path.{◌≡◌, refl, sym, ap, subst, ◌∙◌}
use mathlib.Core.List.{List, [], ◌∷◌, ◌++◌}
use Prim.Native.Nat.{ℕ, ◌+◌, ◌*◌, ◌/◌, ◌%◌, ◌≤◌, ◌<◌}
use native.Mathlib.Omega.{arith}
use lib.Dec.{eqb}
use lib.ListN.{length, get_or, take, drop, replicate}
use lib.Seq.{ext_get_or}
use Rattle.std.proofs.lemmas.List.{length-take, length-drop, get_or-take, get_or-drop}
use Rattle.octets.proofs.Cases.{lt_or_le}
use Rattle.law.specs.Words.{when, one_of, Piece, piece, over}
use Rattle.law.specs.Sheet.{PduType, short, Parameter, Sheet, GoodLength, is_release2}
use Rattle.law.specs.State.{link, mn_known, last_mn, rsn, command_latch, communication_latch}
use Rattle.law.specs.Memory.{cells, readable, writable, held, stored}
use Rattle.law.specs.Table.{check, Row, row, stray_in, parameter_of, item_of, short_table, table_of}
use Rattle.law.specs.Exchange.{Fate, code, wdt, checked, judged, fate_of, failing, passing, state_after, reply_for, head_for, low_status}
use Rattle.law.proofs.Codes.{by_code}
use Rattle.law.proofs.Laid.{when_no}
use Rattle.law.proofs.World.{nth}
use Rattle.slave.specs.Answers.{told}
use Rattle.slave.specs.Exchange.{left}
use Rattle.demands.specs.Answered.{Answered}
use Rattle.demands.specs.Short.{SameNamed, OthersAreIgnored}
use Rattle.demands.proofs.Done.{lawful, answered_done}
use Rattle.demands.proofs.Places.{none_judges}
use Rattle.demands.proofs.SameFields.{prm_checks, id_checks, con_checks, con_changes}

-- lists that have the same octets from one place up to another
take_same : (n : ℕ) (c d : List ℕ) → length c ≡ length d → ((k : ℕ) → k < n → get_or c k 0 ≡ get_or d k 0) → take n c ≡ take n d
take_same n c d e all =
    ext_get_or 0 (take n c) (take n d) (simp length-take (omega arith)) (λ k u.
    let l : k < n = omega (arith, length-take n c) in
    get_or-take n c k 0 l ∙ all k l ∙ sym (get_or-take n d k 0 l))

part_same : (from n : ℕ) (c d : List ℕ) → length c ≡ length d → ((k : ℕ) → from ≤ k → k < from + n → get_or c k 0 ≡ get_or d k 0)
    → take n (drop from c) ≡ take n (drop from d)
part_same from n c d e all =
    take_same n (drop from c) (drop from d) (simp length-drop (omega arith)) (λ k u.
    get_or-drop from c k 0 ∙ all (from + k) (omega arith) (omega arith) ∙ sym (get_or-drop from d k 0))

drop_same : (from : ℕ) (c d : List ℕ) → length c ≡ length d → ((k : ℕ) → from ≤ k → k < length c → get_or c k 0 ≡ get_or d k 0) → drop from c ≡ drop from d
drop_same from c d e all =
    ext_get_or 0 (drop from c) (drop from d) (simp length-drop (omega arith)) (λ k u.
    get_or-drop from c k 0 ∙ all (from + k) (omega arith) (omega (arith, length-drop from c)) ∙ sym (get_or-drop from d k 0))

module _ (h : Sheet) (s m c d : List ℕ) (release : is_release2 h ≡ false) (sixteen : length c ≡ 16) (same : SameNamed c d) where
  abbrev first : List Row
  first = short_table h s m c

  abbrev second : List Row
  second = short_table h s m d

  -- release 1 asks no octet to be zero
  z : (k : ℕ) → stray_in h s m c short (nth first k).named ≡ stray_in h s m d short (nth second k).named
  z k = when_no _ _ release ∙ sym (when_no _ _ release)

  -- fates by the octets that are named, and by that which should be zero
  abbrev parameter_fate : ℕ → (ℕ → Bool) → (Parameter → List Piece) → (Parameter → List Piece) → ℕ → ℕ → ℕ → ℕ → Fate
  parameter_fate k right body stores four five six stray =
      let number = four + 256 * (five + 256 * 0) in
      let p = parameter_of h.parameters number in
      let checks = prm_checks h number six 8 stray right in
      checked s (check (one_of (link s) (2 ∷ 3 ∷ [])) 12 0 ∷ checks) (row k (2 ∷ 3 ∷ []) [] checks [] (body p) (stores p))

  abbrev item_fate : List ℕ → ℕ → ℕ → ℕ → ℕ → Fate
  item_fate echo four five six stray =
      let checks = id_checks h four five six 8 stray in
      checked s (check (one_of (link s) (2 ∷ 3 ∷ [])) 12 0 ∷ checks)
      (row 0x03 (2 ∷ 3 ∷ []) [] checks [] (piece 4 echo ∷ piece 7 (take six (drop five (item_of h.items four).octets)) ∷ []) [])

  abbrev connect_fate : List ℕ → ℕ → ℕ → ℕ → ℕ → Fate
  connect_fate echo four five six stray =
      let checks = con_checks h four five six stray in
      checked s (check (one_of (link s) (1 ∷ [])) 12 0 ∷ checks) (row 0x0E (1 ∷ []) [] checks (con_changes five six) (piece 4 echo ∷ []) [])

  abbrev mode_fate : ℕ → List Piece → List Piece → ℕ → ℕ → Fate
  mode_fate k changes body four stray =
      let checks = check (eqb four 0) 9 4 ∷ check (eqb stray 0) 9 stray ∷ [] in
      checked s (check (one_of (link s) (2 ∷ 3 ∷ [])) 12 0 ∷ checks) (row k (2 ∷ 3 ∷ []) [] checks changes body [])

  abbrev plain_fate : List ℕ → List Piece → ℕ → Fate
  plain_fate links changes stray =
      checked s (check (one_of (link s) links) 12 0 ∷ check (eqb stray 0) 9 stray ∷ []) (row 0 links [] [] changes [] [])

  abbrev Same : ℕ → Type 0
  Same k = code c ≡ k → judged s k first ≡ judged s k second

  -- an octet, some octets, and all octets from one on, that the two have in common
  abbrev At : ℕ → Type 0
  At k = get_or c k 0 ≡ get_or d k 0

  abbrev Part : ℕ → ℕ → Type 0
  Part from n = take n (drop from c) ≡ take n (drop from d)

  abbrev From : ℕ → Type 0
  From from = drop from c ≡ drop from d

  module _ (named : one_of (code c) (0x01 ∷ 0x02 ∷ 0x03 ∷ 0x0E ∷ []) ≡ true) where
    four : At 4
    four = same.fields named 4 (omega arith) (omega arith)

    five : At 5
    five = same.fields named 5 (omega arith) (omega arith)

    six : At 6
    six = same.fields named 6 (omega arith) (omega arith)

    echo : Part 4 3
    echo = part_same 4 3 c d same.long (same.fields named)

  -- the data and WDT, which stands behind it
  behind : code c ≡ 0x02 → From 7
  behind e =
      drop_same 7 c d same.long (λ k l u. ⊎_elim (λ (v : k < 15). same.data_octets e k l v) (λ (v : 15 ≤ k). last k (omega arith)) (lt_or_le k 15))
    where
      last : (k : ℕ) → k ≡ 15 → At k
      last k e = subst At (sym e) same.wdts

  abbrev fielded : List ℕ
  fielded = 0x01 ∷ 0x02 ∷ 0x03 ∷ 0x0E ∷ []

  abbrev moded : List ℕ
  moded = 0x05 ∷ 0x06 ∷ []

  among : {k : ℕ} (ks : List ℕ) → code c ≡ k → one_of k ks ≡ true → one_of (code c) ks ≡ true
  among ks e q = ap (λ (n : ℕ). one_of n ks) e ∙ q

  row_same : (k : ℕ) → Same k
  unfolding judged when checked
  row_same =
      by_code Same
      (λ e i. plain_fate (1 ∷ 2 ∷ 3 ∷ []) [] (z 0 i))
      (λ e i. let n = among fielded e refl in parameter_fate 0x01 readable (λ p. piece 4 (echo n i) ∷ piece 7 (held (cells h.regions) m p.address p.size) ∷ []) (λ p. []) (four n i) (five n i) (six n i) (z 1 i))
      (λ e i. let n = among fielded e refl in parameter_fate 0x02 (writable (link s)) (λ p. piece 4 (echo n i) ∷ piece 7 (take p.size (behind e i)) ∷ []) (λ p. piece p.address (take p.size (behind e i)) ∷ []) (four n i) (five n i) (six n i) (z 2 i))
      (λ e i. let n = among fielded e refl in item_fate (echo n i) (four n i) (five n i) (six n i) (z 3 i))
      (λ e i. mode_fate 0x05 [] (piece 5 (command_latch s ∷ communication_latch s ∷ []) ∷ []) (same.modes (among moded e refl) i) (z 4 i))
      (λ e i. mode_fate 0x06 (piece 8 (0 ∷ []) ∷ piece 9 (0 ∷ []) ∷ []) [] (same.modes (among moded e refl) i) (z 5 i))
      (λ e i. plain_fate (2 ∷ []) (piece 1 (3 ∷ []) ∷ piece 3 (0 ∷ []) ∷ []) (z 6 i))
      (λ e i. let n = among fielded e refl in connect_fate (echo n i) (four n i) (five n i) (six n i) (z 7 i))
      (λ e i. plain_fate (1 ∷ 2 ∷ 3 ∷ []) (piece 1 (1 ∷ []) ∷ piece 4 (0 ∷ []) ∷ []) (z 8 i))
      (λ e. refl)
      (λ e. refl)
      (λ n z0 z1 z2 z3 z4 z5 z6 z7 z8 z9 z10 e.
      none_judges s n first (z0, (z1, (z2, (z3, (z4, (z5, (z6, (z7, (z8, tt))))))))) ∙ sym (none_judges s n second (z0, (z1, (z2, (z3, (z4, (z5, (z6, (z7, (z8, tt)))))))))))

  module _ (is_short : h.pdu ≡ short) where
    wdt_same : wdt h.pdu c ≡ wdt h.pdu d
    wdt_same = ap (λ (p : PduType). wdt p c) is_short ∙ same.wdts ∙ sym (ap (λ (p : PduType). wdt p d) is_short)

    judged_same : judged s (code c) (table_of h s m c h.pdu) ≡ judged s (code d) (table_of h s m d h.pdu)
    judged_same =
        ap (λ (p : PduType). judged s (code c) (table_of h s m c p)) is_short ∙ row_same (code c) refl
        ∙ ap (λ (k : ℕ). judged s k second) same.codes ∙ sym (ap (λ (p : PduType). judged s (code d) (table_of h s m d p)) is_short)

    fate_same : fate_of h s m c ≡ fate_of h s m d
    unfolding fate_of
    fate_same =
        λ i.
        when (eqb (link s) 3 && (eqb (mn_known s) 1 && not (eqb (wdt_same i % 16) ((last_mn s + 1) % 16) && eqb (wdt_same i / 16) (rsn s))))
        (failing h s) (passing (judged_same i))

    head_same : (alarm : ℕ) (t : List ℕ) → head_for h.pdu h c alarm t ≡ head_for h.pdu h d alarm t
    head_same alarm t =
        ap (λ (p : PduType). head_for p h c alarm t) is_short
        ∙ (λ i. piece 0 (same.codes i ∷ alarm ∷ low_status t ∷ 16 * communication_latch t ∷ []) ∷ piece 15 (when (eqb (link t) 3) (16 * rsn t + wdt_same i % 16) 0 ∷ []) ∷ [])
        ∙ sym (ap (λ (p : PduType). head_for p h d alarm t) is_short)

    reply_same : (alarm : ℕ) (t : List ℕ) (body : List Piece) → reply_for h c alarm t body ≡ reply_for h d alarm t body
    unfolding reply_for
    reply_same alarm t body = ap (λ (head : List Piece). over (head ++ body) (replicate h.l 0)) (head_same alarm t)

pub others_are_ignored : OthersAreIgnored
others_are_ignored h sheet s m c d r is_short release a same =
    let sixteen : length c ≡ 16 = a.asked ∙ subst (λ (p : PduType). GoodLength p h.l) is_short a.good.l in
    let b : Answered h sheet s m d r =
    record { good = a.good; written = a.written; valid = a.valid; whole = a.whole; asked = sym same.long ∙ a.asked; lent = a.lent; enabled = a.enabled } in
    answered_done h sheet s m c r a ∙ by_fate h s m c d release sixteen same is_short ∙ sym (answered_done h sheet s m d r b)
  where
    -- what a fate leaves goes by the command's code and WDT alone
    by_fate : (h : Sheet) (s m c d : List ℕ) (release : is_release2 h ≡ false) (sixteen : length c ≡ 16) (same : SameNamed c d) (is_short : h.pdu ≡ short)
        → left (told 0 (fate_of h s m c).place) (lawful h s m c).state (lawful h s m c).memory (lawful h s m c).reply
        ≡ left (told 0 (fate_of h s m d).place) (lawful h s m d).state (lawful h s m d).memory (lawful h s m d).reply
    by_fate h s m c d release sixteen same is_short =
        let f = fate_same h s m c d release sixteen same is_short in
        let w = wdt_same h s m c d release sixteen same is_short in
        (λ i.
        left (told 0 (f i).place) (state_after s (w i % 16) (f i).changes) (stored (f i).stores (cells h.regions) m)
        (reply_for h c (f i).alarm (state_after s (w i % 16) (f i).changes) (f i).body))
        ∙ ap (left (told 0 (fate_of h s m d).place) (lawful h s m d).state (lawful h s m d).memory)
        (reply_same h s m c d release sixteen same is_short (fate_of h s m d).alarm (lawful h s m d).state (fate_of h s m d).body)
