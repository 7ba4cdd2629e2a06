-- The tables of steps by S, and by S and then a turn.
--
-- In order: which places are positions (`real_low`, `real_high`); signs of frames (`frame_low`, `frame_high`, `edge_low`, `edge_high`, `crossing_none`,
-- `crossing_some`); codes of letters (`coded-…`, `decoded_fits`, `letter_most`) and of signs (`code_plus`, `code_minus`); one step noted
-- (`prepared_none`, `prepared_skip`, `prepared_more`, `prepared_all`); its sign (`sign_step`); where S leads is a position, and so it is after a turn
-- (`step_low`, `turn_low`); turns of an outer face and of a corner (`turn_stays`, `turn_is`); which table is read (`table_is`, `table-low`).
-- Assumes nothing.
use mathlib.Core.Path.{◌≡◌, refl, sym, ◌∙◌, ap}
use mathlib.Core.Bool.{Bool, true, false, not, ◌||◌}
use mathlib.Core.List.{List}
use Prim.Native.Nat.{ℕ, zero, suc, ◌+◌, ◌*◌, ◌-◌, ◌/◌, ◌%◌, ◌≤◌, ◌<◌}
use native.Mathlib.Omega.{arith}
use lib.Dec.{ltb, eqb, lit<}
use lib.ListN.{length, get_or, set, length-set}
use lib.Seq.{get_or-set_same, get_or-set_other}
use lib.IntN.{ℤ, pos, negsuc, nat_abs, ◌+ℤ◌, ◌-ℤ◌, +ℤ-neg_ℤ_cancel}
use lib.Signed.{lt_z}
use mir.Syntax.{w16}
use mir.Val.{SFits, to_z, of_z, bool_byte}
use mir.Facts.{to_z-of_z, to_z_pos}
use borrow.Author.Tests.{lt-ltb, le-ltb, ltb-true, ltb-false, eq-eqb, ne_eqb}
use borrow.Author.Count.{below_more}
use Rattle.matrix.specs.Words.{S, Q, P}
use Rattle.symbol.specs.Symbol.{IsSymbol}
use Rattle.pairing.specs.Generator.{generators, is_leader}
use Rattle.pairing.specs.Subgroup.{IsWord}
use Rattle.basics.specs.Choice.{pick}
use Rattle.basics.proofs.Choice.{clash, pick_true, pick_false}
use Rattle.polygon.specs.Cut.{corners, outer, places}
use Rattle.polygon.specs.Step.{odd_at, real, Real, step_s, turn_q, written}
use Rattle.polygon.specs.Walk.{goes}
use Rattle.polygon.specs.Corner.{TurnsTo}
use Rattle.polygon.specs.Inner.Tables.{PolygonTables, letters_of}
use Rattle.polygon.proofs.Flip.{real_in, turn_face}
use Rattle.polygon.proofs.Corner.{forth_is, back_is}
use Rattle.polygon.proofs.Polygon.{polygon}
use Rattle.polygon.proofs.Partners.{tables_set}
use Rattle.polygon.proofs.SymbolFacts.{length_generators, count_most}
use Rattle.signs.specs.Sign.{◌·◌}
use Rattle.signs.specs.Step.{left_to_right, frame_sign, crossing_sign, step_sign}
use Rattle.coset.specs.Inner.Steps.{NEXT, LETTER, FORTH, BACK, block_table, turn_by, letter_in, sign_in, StepsReady}
use Rattle.coset.proofs.Positions.{crossing_equation}

-- ---- which places are positions

module _ (v : ℕ) (t : List ℤ) (p : ℕ) where
  pub real_low : p < corners v → true ≡ real v t p
  unfolding real
  real_low h = sym (ap (λ (b : Bool). b || odd_at v t (p - corners v)) (lt-ltb p (corners v) h))

  pub real_high : corners v ≤ p → odd_at v t (p - corners v) ≡ real v t p
  unfolding real
  real_high h = sym (ap (λ (b : Bool). b || odd_at v t (p - corners v)) (le-ltb p (corners v) h))

-- ---- signs

module _ (v p : ℕ) where
  pub frame_low : p < corners v → not (eqb (p % 3) 2) ≡ frame_sign v p
  unfolding frame_sign
  frame_low h = sym (pick_true (ltb p (corners v)) _ _ (lt-ltb p (corners v) h))

  pub frame_high : corners v ≤ p → not (eqb p (outer v v)) ≡ frame_sign v p
  unfolding frame_sign
  frame_high h = sym (pick_false (ltb p (corners v)) _ _ (le-ltb p (corners v) h))

  pub edge_low : p < corners v → eqb (p % 3) 0 ≡ left_to_right v p
  unfolding left_to_right
  edge_low h = sym (pick_true (ltb p (corners v)) _ _ (lt-ltb p (corners v) h))

  pub edge_high : corners v ≤ p → not (eqb p (outer v v)) ≡ left_to_right v p
  unfolding left_to_right
  edge_high h = sym (pick_false (ltb p (corners v)) _ _ (le-ltb p (corners v) h))

-- the crossing's sign, by the letter as the code has it
module _ {z : ℤ} (fit : SFits w16 z) (s : Bool) where
  pub crossing_none : of_z w16 z ≡ 0 → s ≡ crossing_sign (letters_of z) s
  crossing_none e = sym (ap (λ (y : ℤ). crossing_sign (letters_of y) s) (sym (to_z-of_z fit) ∙ ap (to_z w16) e ∙ to_z_pos w16 {n = 0} (lit< tt)))

  pub crossing_some : (of_z w16 z ≡ 0 → ⊥) → lt_z (pos 0) (to_z w16 (of_z w16 z)) ≡ crossing_sign (letters_of z) s
  crossing_some h = rw (to_z-of_z fit) (own z (λ e. h (ap (of_z w16) e)))
    where
      own : (y : ℤ) → (y ≡ pos 0 → ⊥) → lt_z (pos 0) y ≡ crossing_sign (letters_of y) s
      own (pos zero) n = absurd (n refl)
      own (pos (suc k)) n = lt-ltb 0 (suc k) (omega arith)
      own (negsuc k) n = refl

-- ---- codes

code_is : (z : ℤ) → nat_abs z ≤ 1024 → z +ℤ pos 1024 ≡ pos (nat_abs (z +ℤ pos 1024))
code_is (pos n) h = refl
code_is (negsuc n) h = rw (le-ltb 1024 (suc n) h)

code_low : (z : ℤ) → nat_abs z ≤ 1024 → nat_abs (z +ℤ pos 1024) ≤ 2048
code_low (pos n) h = omega arith
code_low (negsuc n) h = rw (le-ltb 1024 (suc n) h) (omega arith)

code_fits : (z : ℤ) → nat_abs z ≤ 1024 → SFits w16 (z +ℤ pos 1024)
code_fits z h = rw (code_is z h) (record { sfits = omega (arith, code_low z h) })

module _ {z : ℤ} (fit : SFits w16 z) (h : nat_abs z ≤ 1024) where
  pub coded_fits : SFits w16 (to_z w16 (of_z w16 z) +ℤ pos 1024)
  coded_fits = rw (to_z-of_z fit) (code_fits z h)

  pub coded_is : to_z w16 (of_z w16 (to_z w16 (of_z w16 z) +ℤ pos 1024)) ≡ pos (nat_abs (z +ℤ pos 1024))
  coded_is = to_z-of_z coded_fits ∙ rw (to_z-of_z fit) (code_is z h)

  pub coded_low : nat_abs (z +ℤ pos 1024) ≤ 2048
  coded_low = code_low z h

  pub coded_back : pos (nat_abs (z +ℤ pos 1024)) -ℤ pos 1024 ≡ z
  coded_back = ap (λ (y : ℤ). y -ℤ pos 1024) (sym (code_is z h)) ∙ +ℤ-neg_ℤ_cancel z (pos 1024)

-- a code below 2,048 as a letter
pub decoded_fits : (n : ℕ) → n ≤ 2048 → SFits w16 (pos n -ℤ pos 1024)
decoded_fits n h = go (ltb n 1024) refl
  where
    go : (b : Bool) → ltb n 1024 ≡ b → SFits w16 (pos n -ℤ pos 1024)
    go true e = rw e (record { sfits = omega arith })
    go false e = rw e (record { sfits = omega arith })

-- twice a code, and one more for plus
pub code_plus : (n : ℕ) → ((2 * n + 1) / 2 ≡ n) × (eqb ((2 * n + 1) % 2) 1 ≡ true)
code_plus n = (omega arith, eq-eqb ((2 * n + 1) % 2) 1 (omega arith))

pub code_minus : (n : ℕ) → ((2 * n) / 2 ≡ n) × (eqb ((2 * n) % 2) 1 ≡ false)
code_minus n = (omega arith, ne_eqb ((2 * n) % 2) 1 (λ e. omega arith))

-- ---- letters are at most 1,024 in size

word_most : (n : ℕ) (z : ℤ) → IsWord n (letters_of z) → nat_abs z ≤ n
word_most n (pos zero) w = omega arith
word_most n (pos (suc k)) w = w.0.1
word_most n (negsuc k) w = w.0.1

pub letter_most : (v : ℕ) (t : List ℤ) → IsSymbol v t → (p : ℕ) (z : ℤ) → Real v t p → letters_of z ≡ written v t S p → nat_abs z ≤ 1024
letter_most v t ok p z r e =
    let w : IsWord (length (generators v t)) (letters_of z) = rw e ((polygon v t ok).letters S p r) in
    omega (arith, word_most (length (generators v t)) z w, length_generators v t, count_most (is_leader v t) (v + 1), ok.most)

-- ---- one step noted

pub prepared_none : {t : List ℤ} {v : ℕ} {w : List ℕ} → PolygonTables t v w → StepsReady t v w 0
prepared_none g = record {
  tables = g;
  steps = λ p h. absurd (omega arith);
  codes = λ p h. absurd (omega arith);
  letters = λ p h. absurd (omega arith);
  signs = λ p h. absurd (omega arith);
  blocks = λ b p h. absurd (omega arith);
  crossings = λ p h. absurd (omega arith);
}

module _ {t : List ℤ} {v : ℕ} {w : List ℕ} {p : ℕ} (g : StepsReady t v w p) (h : p < places v) where
  pub prepared_skip : real v t p ≡ false → StepsReady t v w (p + 1)
  prepared_skip e = record {
    tables = g.tables;
    steps = below_more _ p g.steps (λ r. clash r e);
    codes = below_more _ p g.codes (λ r. clash r e);
    letters = below_more _ p g.letters (λ r. clash r e);
    signs = below_more _ p g.signs (λ r. clash r e);
    blocks = λ b. below_more _ p (g.blocks b) (λ r. clash r e);
    crossings = below_more _ p g.crossings (λ r. clash r e);
  }

  -- the four stores, one after another
  module _ (to code f b : ℕ) where
    abbrev w1 : List ℕ
    w1 = set w (NEXT + p) to

    abbrev w2 : List ℕ
    w2 = set w1 (LETTER + p) code

    abbrev w3 : List ℕ
    w3 = set w2 (FORTH + p) f

    abbrev pub noted : List ℕ
    noted = set w3 (BACK + p) b

    -- an entry of none of them stays
    other : (i : ℕ) → (i ≡ NEXT + p → ⊥) → (i ≡ LETTER + p → ⊥) → (i ≡ FORTH + p → ⊥) → (i ≡ BACK + p → ⊥) → get_or noted i 0 ≡ get_or w i 0
    other i a c d e =
        get_or-set_other w3 (BACK + p) i b 0 e ∙ get_or-set_other w2 (FORTH + p) i f 0 d
        ∙ get_or-set_other w1 (LETTER + p) i code 0 c ∙ get_or-set_other w (NEXT + p) i to 0 a

    pub noted_long : length noted ≡ length w
    noted_long = length-set w3 (BACK + p) b ∙ length-set w2 (FORTH + p) f ∙ length-set w1 (LETTER + p) code ∙ length-set w (NEXT + p) to

    -- both tables of turns: below p they stay, and at p is what is noted
    block_other : (d : Bool) (j : ℕ) → j < p → get_or noted (block_table d + j) 0 ≡ get_or w (block_table d + j) 0
    block_other true j a = let most = g.tables.symbol.most in
        other (BACK + j) (λ n. omega arith) (λ n. omega arith) (λ n. omega arith) (λ n. omega arith)
    block_other false j a = let most = g.tables.symbol.most in
        other (FORTH + j) (λ n. omega arith) (λ n. omega arith) (λ n. omega arith) (λ n. omega arith)

    block_here : (d : Bool) → BACK + p < length w → f ≡ turn_by v false to → b ≡ turn_by v true to
        → get_or noted (block_table d + p) 0 ≡ goes v t (pick d P Q) to
    block_here true l y x = get_or-set_same w3 (BACK + p) b 0 (omega (arith, noted_long, length-set w3 (BACK + p) b)) ∙ x
    block_here false l y x =
        get_or-set_other w3 (BACK + p) (FORTH + p) b 0 (λ n. omega arith)
        ∙ get_or-set_same w2 (FORTH + p) f 0 (omega (arith, length-set w1 (LETTER + p) code, length-set w (NEXT + p) to)) ∙ y

    pub prepared_more : (z : ℤ) → to ≡ step_s v t p → code / 2 ≤ 2048 → pos (code / 2) -ℤ pos 1024 ≡ z → letters_of z ≡ written v t S p
        → eqb (code % 2) 1 ≡ step_sign v t S p → f ≡ turn_by v false to → b ≡ turn_by v true to → StepsReady t v noted (p + 1)
    prepared_more z e c k l i y x =
        let most = g.tables.symbol.most in
        let long = g.tables.long in
        let long1 = length-set w (NEXT + p) to in
        let long2 = length-set w1 (LETTER + p) code in
        let long3 = length-set w2 (FORTH + p) f in
        let tables2 = tables_set (LETTER + p) code (tables_set (NEXT + p) to g.tables (omega arith) (omega arith)) (omega arith) (omega arith) in
        let tables3 = tables_set (FORTH + p) f tables2 (omega arith) (omega arith) in
        let step : get_or noted (NEXT + p) 0 ≡ to =
        get_or-set_other w3 (BACK + p) (NEXT + p) b 0 (λ n. omega arith) ∙ get_or-set_other w2 (FORTH + p) (NEXT + p) f 0 (λ n. omega arith)
        ∙ get_or-set_other w1 (LETTER + p) (NEXT + p) code 0 (λ n. omega arith) ∙ get_or-set_same w (NEXT + p) to 0 (omega arith) in
        let here : get_or noted (LETTER + p) 0 ≡ code =
        get_or-set_other w3 (BACK + p) (LETTER + p) b 0 (λ n. omega arith) ∙ get_or-set_other w2 (FORTH + p) (LETTER + p) f 0 (λ n. omega arith)
        ∙ get_or-set_same w1 (LETTER + p) code 0 (omega arith) in
        let letter : (j : ℕ) → j < p → get_or noted (LETTER + j) 0 ≡ get_or w (LETTER + j) 0 =
        λ j a. other (LETTER + j) (λ n. omega arith) (λ n. omega arith) (λ n. omega arith) (λ n. omega arith) in
        let steps' : (j : ℕ) → j < p + 1 → Real v t j → get_or noted (NEXT + j) 0 ≡ step_s v t j =
        below_more _ p
        (λ j a r. other (NEXT + j) (λ n. omega arith) (λ n. omega arith) (λ n. omega arith) (λ n. omega arith) ∙ g.steps j a r)
        (λ r. step ∙ e) in
        let letters' : (j : ℕ) → j < p + 1 → Real v t j → letters_of (letter_in noted j) ≡ written v t S j =
        below_more _ p (λ j a r. ap (λ (n : ℕ). letters_of (pos (n / 2) -ℤ pos 1024)) (letter j a) ∙ g.letters j a r)
        (λ r. ap (λ (n : ℕ). letters_of (pos (n / 2) -ℤ pos 1024)) here ∙ ap letters_of k ∙ l) in
        let signs' : (j : ℕ) → j < p + 1 → Real v t j → sign_in noted j ≡ step_sign v t S j =
        below_more _ p (λ j a r. ap (λ (n : ℕ). eqb (n % 2) 1) (letter j a) ∙ g.signs j a r)
        (λ r. ap (λ (n : ℕ). eqb (n % 2) 1) here ∙ i) in
        let blocks' : (d : Bool) (j : ℕ) → j < p + 1 → Real v t j → get_or noted (block_table d + j) 0 ≡ goes v t (pick d P Q) (step_s v t j) = λ d.
        below_more _ p (λ j a r. block_other d j a ∙ g.blocks d j a r) (λ r. block_here d (omega arith) y x ∙ ap (goes v t (pick d P Q)) e) in
        record {
          tables = tables_set (BACK + p) b tables3 (omega arith) (omega arith);
          steps = steps';
          codes = below_more _ p (λ j a r. rw (letter j a) (g.codes j a r)) (λ r. rw here c);
          letters = letters';
          signs = signs';
          blocks = blocks';
          crossings = λ j a r.
              crossing_equation v t g.tables.symbol j (get_or noted (NEXT + j) 0) (letters_of (letter_in noted j)) (sign_in noted j) r
              (steps' j a r) (letters' j a r) (signs' j a r);
        }

pub prepared_all : {t : List ℤ} {v : ℕ} {w : List ℕ} (p : ℕ) → StepsReady t v w p → p ≡ places v → StepsReady t v w (places v)
prepared_all p g e = rw (sym e) g

-- the sign of a step by its letter and where it leads
pub sign_step : (v : ℕ) (t : List ℤ) (p to : ℕ) (z : ℤ) → to ≡ step_s v t p → letters_of z ≡ written v t S p
    → frame_sign v p · frame_sign v to · crossing_sign (letters_of z) (left_to_right v p) ≡ step_sign v t S p
unfolding step_sign
sign_step v t p to z e l = rw (e, l) refl

-- where S leads is a position, and so are those that turns lead to from there
module _ (v : ℕ) (t : List ℤ) (ok : IsSymbol v t) (p to : ℕ) (r : Real v t p) (e : to ≡ step_s v t p) where
  step_real : Real v t to
  step_real = rw e ((polygon v t ok).closed S p r)

  pub step_low : to < places v
  step_low = real_in v t ok to step_real

  pub turn_low : (b : Bool) (q : ℕ) → q ≡ turn_by v b to → q < places v
  turn_low true q f = rw f (real_in v t ok (turn_q v (turn_q v to)) ((polygon v t ok).closed P to step_real))
  turn_low false q f = rw f (real_in v t ok (turn_q v to) ((polygon v t ok).closed Q to step_real))

-- ---- turns

module _ (v p : ℕ) where
  pub turn_stays : (b : Bool) → corners v ≤ p → p ≡ turn_by v b p
  turn_stays true h = let e = turn_face v p h in sym (ap (turn_q v) e ∙ e)
  turn_stays false h = sym (turn_face v p h)

  pub turn_is : (b : Bool) (d : ℕ) → p < corners v → d < 3 → TurnsTo b (p % 3) d → p - p % 3 + d ≡ turn_by v b p
  turn_is true d h low t = back_is v p d h low t
  turn_is false d h low t = forth_is v p d h low t

-- the table of a turn, as the code finds it
pub table_is : (b : Bool) → FORTH + 4096 * bool_byte b ≡ block_table b
table_is true = refl
table_is false = refl

pub byte_most : (b : Bool) → bool_byte b ≤ 1
byte_most true = omega arith
byte_most false = omega arith
