-- The body, octet by octet.
use mathlib.Core.Bool.{Bool, ◌&&◌}
use mathlib.Core.Logic.{⊎_elim}
use mathlib.Core.Path.{◌≡◌, refl, sym, ap, ap₂, ◌∙◌}
use mathlib.Core.List.{List, [], ◌∷◌}
use Prim.Native.Nat.{ℕ, ◌+◌, ◌-◌, ◌≤◌, ◌<◌}
use native.Mathlib.Omega.{arith}
use borrow.Author.Tests.{lt-ltb, le-ltb, le-leb, lt-leb}
use lib.Dec.{leb, ltb}
use lib.ListN.{length, get_or}
use Rattle.std.proofs.lemmas.Bool.{cases_lt}
use Rattle.octets.specs.Parts.{part, put_at}
use Rattle.octets.specs.Pick.{pick}
use Rattle.octets.proofs.Overlaid.{put_length, put_before, put_inside, put_behind, part_length}
use Rattle.octets.proofs.Pick.{pick_yes, pick_no}
use Rattle.machine.specs.declared.words.Carrier.{Carrier}
use Rattle.machine.specs.declared.words.Carrier.TheVariants.{Parameter, Memory}
use Rattle.machine.specs.declared.words.Effect.{Effect}
use Rattle.machine.specs.declared.words.Effect.TheVariants.{Quiet, Reads, Writes, Identifies, Alarms, Connects}
use Rattle.sheet.specs.declared.walk.Form.{Form}
use Rattle.sheet.specs.declared.walk.Form.TheVariants.{Enhanced, Short}
use Rattle.frame.specs.Body.{body_of, Fitting}
use Rattle.frame.specs.Places.{fields_end, alarms_at, body_end, data_from, echo_from, echo_size}
use Rattle.frame.proofs.Numbers.{end_within, fields_behind, alarms_behind, data_behind, echo_behind, echo_before}

-- the octet k where s lies from a place on, over an old one
abbrev pub laid_at : ℕ → List ℕ → ℕ → ℕ → ℕ
laid_at at s k old = pick (leb at k && ltb k (at + length s)) (get_or s (k - at) 0) old

laid_here : (at : ℕ) (s : List ℕ) (k old : ℕ) → at ≤ k → k < at + length s → laid_at at s k old ≡ get_or s (k - at) 0
laid_here at s k old l u = pick_yes _ _ (ap₂ ◌&&◌ (le-leb at k l) (lt-ltb k (at + length s) u))

laid_before : (at : ℕ) (s : List ℕ) (k old : ℕ) → k < at → laid_at at s k old ≡ old
laid_before at s k old l = pick_no _ _ (ap (λ (b : Bool). b && ltb k (at + length s)) (lt-leb at k l))

laid_behind : (at : ℕ) (s : List ℕ) (k old : ℕ) → at + length s ≤ k → laid_at at s k old ≡ old
laid_behind at s k old l = pick_no _ _ (ap₂ ◌&&◌ (le-leb at k (omega arith)) (le-ltb k (at + length s) l))

pub put_told : (d : List ℕ) (at : ℕ) (s : List ℕ) → at + length s ≤ length d → (k : ℕ) → get_or (put_at d at s) k 0 ≡ laid_at at s k (get_or d k 0)
put_told d at s fits k =
    ⊎_elim (λ (a : k < at). put_before d at s fits k a ∙ sym (laid_before at s k (get_or d k 0) a))
    (λ (a : at ≤ k).
    ⊎_elim (λ (b : k < at + length s).
    ap (λ (n : ℕ). get_or (put_at d at s) n 0) (let e : k ≡ at + (k - at) = omega arith in e)
    ∙ put_inside d at s fits (k - at) (omega arith) ∙ sym (laid_here at s k (get_or d k 0) a b))
    (λ (b : at + length s ≤ k). put_behind d at s fits k b ∙ sym (laid_behind at s k (get_or d k 0) b))
    (cases_lt k (at + length s)))
    (cases_lt k at)

-- a carrier's fields again, and its data
unfoldable pub carried_at : Form → Carrier → List ℕ → List ℕ → ℕ → ℕ → ℕ
carried_at form by octets c k old = laid_at (data_from form by) octets k (laid_at (echo_from by) (part c (echo_from by) (echo_size form by)) k old)

-- octet k of a reply behind an effect, over what stood there
unfoldable pub body_at : Form → Effect → List ℕ → List ℕ → List ℕ → ℕ → ℕ → ℕ
body_at form Quiet sheet m c k old = old
body_at form (Reads by place n) sheet m c k old = carried_at form by (part m place n) c k old
body_at form (Writes by place n) sheet m c k old = carried_at form by (part c (data_from form by) n) c k old
body_at form (Identifies at n) sheet m c k old = laid_at (fields_end form) (part sheet at n) k (laid_at 4 (part c 4 (fields_end form - 4)) k old)
body_at form (Alarms command communication) sheet m c k old = laid_at (alarms_at form) (command ∷ communication ∷ []) k old
body_at form Connects sheet m c k old = laid_at 4 (part c 4 (fields_end form - 4)) k old

-- where a carrier's data begins
pub parameter_data_lem : data_from Enhanced Parameter ≡ 8
unfolding data_from fields_end
parameter_data_lem = refl

pub short_parameter_data : data_from Short Parameter ≡ 7
unfolding data_from fields_end
short_parameter_data = refl

pub memory_data : data_from Enhanced Memory ≡ 12
unfolding data_from fields_end
memory_data = refl

-- each effect's body, octet by octet
module _ (sheet m c : List ℕ) (k old : ℕ) where
  pub quiet_at : (form : Form) → body_at form Quiet sheet m c k old ≡ old
  unfolding body_at
  quiet_at form = refl

  pub reads_at : (form : Form) (by : Carrier) (place n : ℕ) → body_at form (Reads by place n) sheet m c k old ≡ carried_at form by (part m place n) c k old
  unfolding body_at
  reads_at form by place n = refl

  pub writes_at : (form : Form) (by : Carrier) (place n : ℕ)
      → body_at form (Writes by place n) sheet m c k old ≡ carried_at form by (part c (data_from form by) n) c k old
  unfolding body_at
  writes_at form by place n = refl

  pub parameter_at_lem : (octets : List ℕ) → carried_at Enhanced Parameter octets c k old ≡ laid_at 8 octets k (laid_at 4 (part c 4 3) k old)
  unfolding carried_at data_from fields_end echo_from echo_size
  parameter_at_lem octets = refl

  pub short_parameter_at : (octets : List ℕ) → carried_at Short Parameter octets c k old ≡ laid_at 7 octets k (laid_at 4 (part c 4 3) k old)
  unfolding carried_at data_from fields_end echo_from echo_size
  short_parameter_at octets = refl

  pub memory_at : (octets : List ℕ) → carried_at Enhanced Memory octets c k old ≡ laid_at 12 octets k (laid_at 5 (part c 5 7) k old)
  unfolding carried_at data_from fields_end echo_from echo_size
  memory_at octets = refl

  pub identifies_at : (at n : ℕ) → body_at Enhanced (Identifies at n) sheet m c k old ≡ laid_at 8 (part sheet at n) k (laid_at 4 (part c 4 4) k old)
  unfolding body_at fields_end
  identifies_at at n = refl

  pub short_identifies_at : (at n : ℕ) → body_at Short (Identifies at n) sheet m c k old ≡ laid_at 7 (part sheet at n) k (laid_at 4 (part c 4 3) k old)
  unfolding body_at fields_end
  short_identifies_at at n = refl

  pub alarms_at_lem : (command communication : ℕ) → body_at Enhanced (Alarms command communication) sheet m c k old ≡ laid_at 8 (command ∷ communication ∷ []) k old
  unfolding body_at alarms_at
  alarms_at_lem command communication = refl

  pub short_alarms_at : (command communication : ℕ)
      → body_at Short (Alarms command communication) sheet m c k old ≡ laid_at 5 (command ∷ communication ∷ []) k old
  unfolding body_at alarms_at
  short_alarms_at command communication = refl

  pub connects_at : body_at Enhanced Connects sheet m c k old ≡ laid_at 4 (part c 4 4) k old
  unfolding body_at fields_end
  connects_at = refl

  pub short_connects_at : body_at Short Connects sheet m c k old ≡ laid_at 4 (part c 4 3) k old
  unfolding body_at fields_end
  short_connects_at = refl

-- no body reaches into the head: data and fields stand behind it
module _ (form : Form) (sheet m c : List ℕ) (k old : ℕ) (l : k < 4) where
  carried_behind : (by : Carrier) (octets : List ℕ) → carried_at form by octets c k old ≡ old
  unfolding carried_at
  carried_behind by octets =
      let d = data_behind form by in
      let e = echo_behind by in
      let again = part c (echo_from by) (echo_size form by) in
      laid_before (data_from form by) octets k (laid_at (echo_from by) again k old) (omega arith) ∙ laid_before (echo_from by) again k old (omega arith)

  pub body_behind : (e : Effect) → body_at form e sheet m c k old ≡ old
  unfolding body_at
  body_behind Quiet = refl
  body_behind (Reads by place n) = carried_behind by (part m place n)
  body_behind (Writes by place n) = carried_behind by (part c (data_from form by) n)
  body_behind (Identifies at n) =
      let f = fields_behind form in
      let again = part c 4 (fields_end form - 4) in
      laid_before (fields_end form) (part sheet at n) k (laid_at 4 again k old) (omega arith) ∙ laid_before 4 again k old l
  body_behind (Alarms command communication) = let f = alarms_behind form in laid_before (alarms_at form) (command ∷ communication ∷ []) k old (omega arith)
  body_behind Connects = laid_before 4 (part c 4 (fields_end form - 4)) k old l

-- how long what lies there is
module _ (form : Form) (sheet m c : List ℕ) where
  echo_long : (by : Carrier) (n : ℕ) → data_from form by + n ≤ body_end form (length c)
      → echo_from by + length (part c (echo_from by) (echo_size form by)) ≤ data_from form by
  echo_long by n f =
      let e = echo_before form by in
      let w = end_within form (length c) in
      let p = part_length c (echo_from by) (echo_size form by) (omega arith) in
      omega arith

  fields_long : fields_end form ≤ body_end form (length c) → 4 + length (part c 4 (fields_end form - 4)) ≡ fields_end form
  fields_long f =
      let b = fields_behind form in
      let w = end_within form (length c) in
      let p = part_length c 4 (fields_end form - 4) (omega arith) in
      omega arith

  -- nor behind the body's end
  module _ (k old : ℕ) (u : body_end form (length c) ≤ k) where
    carried_past : (by : Carrier) (octets : List ℕ) (n : ℕ) → length octets ≡ n → data_from form by + n ≤ body_end form (length c)
        → carried_at form by octets c k old ≡ old
    unfolding carried_at
    carried_past by octets n long f =
        let e = echo_long by n f in
        let again = part c (echo_from by) (echo_size form by) in
        laid_behind (data_from form by) octets k (laid_at (echo_from by) again k old) (omega arith) ∙ laid_behind (echo_from by) again k old (omega arith)

    pub body_past : (e : Effect) → Fitting form e (length c) (length m) (length sheet) → body_at form e sheet m c k old ≡ old
    unfolding body_at Fitting
    body_past Quiet f = refl
    body_past (Reads by place n) f = carried_past by (part m place n) n (part_length m place n f.1) f.0
    body_past (Writes by place n) f =
        let w = end_within form (length c) in
        carried_past by (part c (data_from form by) n) n (part_length c (data_from form by) n (omega (arith, f.0))) f.0
    body_past (Identifies at n) f =
        let p = part_length sheet at n f.1 in
        let q = fields_long (omega (arith, f.0)) in
        let again = part c 4 (fields_end form - 4) in
        laid_behind (fields_end form) (part sheet at n) k (laid_at 4 again k old) (omega (arith, f.0)) ∙ laid_behind 4 again k old (omega (arith, f.0))
    body_past (Alarms command communication) f = laid_behind (alarms_at form) (command ∷ communication ∷ []) k old (omega arith)
    body_past Connects f = let q = fields_long f in laid_behind 4 (part c 4 (fields_end form - 4)) k old (omega arith)

-- two lists over a reply, one after the other
module _ (d : List ℕ) (a : ℕ) (s : List ℕ) (b : ℕ) (t : List ℕ) (first : a + length s ≤ length d) (then : b + length t ≤ length d) where
  pub twice_length : length (put_at (put_at d a s) b t) ≡ length d
  twice_length =
      let e = put_length d a s first in
      put_length (put_at d a s) b t (omega arith) ∙ e

  pub twice_told : (k : ℕ) → get_or (put_at (put_at d a s) b t) k 0 ≡ laid_at b t k (laid_at a s k (get_or d k 0))
  twice_told k =
      let e = put_length d a s first in
      put_told (put_at d a s) b t (omega arith) k ∙ ap (laid_at b t k) (put_told d a s first k)

module _ (form : Form) (sheet m c d : List ℕ) (same : length c ≡ length d) where
  -- what a body leaves of a reply: its length, and octet by octet what the effect says
  abbrev Told : Effect → Type 0
  Told e = (length (body_of form e sheet m c d) ≡ length d) × ((k : ℕ) → get_or (body_of form e sheet m c d) k 0 ≡ body_at form e sheet m c k (get_or d k 0))

  carried_told : (by : Carrier) (octets : List ℕ) (n : ℕ) → length octets ≡ n → data_from form by + n ≤ body_end form (length c)
      → (length (put_at (put_at d (echo_from by) (part c (echo_from by) (echo_size form by))) (data_from form by) octets) ≡ length d)
      × ((k : ℕ) → get_or (put_at (put_at d (echo_from by) (part c (echo_from by) (echo_size form by))) (data_from form by) octets) k 0
      ≡ carried_at form by octets c k (get_or d k 0))
  unfolding carried_at
  carried_told by octets n long f =
      let w = end_within form (length c) in
      let e = echo_long form sheet m c by n f in
      let x : echo_from by + length (part c (echo_from by) (echo_size form by)) ≤ length d = omega arith in
      let y : data_from form by + length octets ≤ length d = omega arith in
      (twice_length d (echo_from by) _ (data_from form by) octets x y, twice_told d (echo_from by) _ (data_from form by) octets x y)

  pub body_told : (e : Effect) → Fitting form e (length c) (length m) (length sheet) → Told e
  unfolding body_of Fitting body_at
  body_told Quiet f = (refl, λ k. refl)
  body_told (Reads by place n) f = carried_told by (part m place n) n (part_length m place n f.1) f.0
  body_told (Writes by place n) f =
      let w = end_within form (length c) in
      carried_told by (part c (data_from form by) n) n (part_length c (data_from form by) n (omega (arith, f.0))) f.0
  body_told (Identifies at n) f =
      let w = end_within form (length c) in
      let p = part_length sheet at n f.1 in
      let q = fields_long form sheet m c (omega (arith, f.0)) in
      let x : 4 + length (part c 4 (fields_end form - 4)) ≤ length d = omega (arith, f.0) in
      let y : fields_end form + length (part sheet at n) ≤ length d = omega (arith, f.0) in
      (twice_length d 4 _ (fields_end form) _ x y, twice_told d 4 _ (fields_end form) _ x y)
  body_told (Alarms command communication) f =
      let w = end_within form (length c) in
      let x : alarms_at form + 2 ≤ length d = omega arith in
      (put_length d (alarms_at form) _ x, put_told d (alarms_at form) _ x)
  body_told Connects f =
      let w = end_within form (length c) in
      let q = fields_long form sheet m c f in
      let x : 4 + length (part c 4 (fields_end form - 4)) ≤ length d = omega arith in
      (put_length d 4 _ x, put_told d 4 _ x)
