-- THE CLAIM (specs/Claim.antt), from what the crate `coset` promises of an accepted symbol: its positions with their steps, frames and signs, the
-- start and the only reduced word (`Positions`), and its tables (`Cosets`).
--
-- In order: the walk comes home exactly where a word exists (`joined_home`, `home_product`, the normal form `home_normal`, with its sign `home_exact`; the
-- walk's equation `walk_is`), and where A and B lead to the same point (`joined_same`, `same_joined`); the word's letters, its length (`letters_of_lem`,
-- `bound_of`, `sixteen_of`); the word in its place (`part_placed`); the three answers (`absent`, `fitting`, `too_short_lem`); the claim (`answered`).
--
-- Why: a product W of generators has W A ≈ B exactly where W ≈ B A⁻¹, so such a product exists exactly where B A⁻¹ is in H, and H is the
-- stabiliser of the start.
-- Assumes nothing.
use Rattle.std.specs.Prelude.{Ok, Err}
use mathlib.Core.Path.{◌≡◌, refl, sym, ◌∙◌, ap}
use mathlib.Core.Logic.{inl, inr}
use mathlib.Core.Bool.{Bool, true, false, not, ◌&&◌}
use mathlib.Core.List.{List, [], ◌∷◌, ◌++◌, append_assoc}
use Prim.Native.Nat.{ℕ, zero, suc, ◌+◌, ◌-◌, ◌≤◌, ◌<◌}
use native.Mathlib.Omega.{arith}
use lib.Dec.{leb}
use lib.ListN.{length, get_or, take, drop}
use lib.Seq.{sets-eq, length-sets, length-take-le, take_at, drop_at}
use lib.IntN.{ℤ, pos, nat_abs}
use borrow.Author.Tests.{le-leb, leb-true, eqb-true, eq-eqb}
use Rattle.matrix.specs.Matrix.{Mat, ◌⊗◌, adj, det, ◌≈◌, of_list}
use Rattle.matrix.specs.Euclid as euclid
use Rattle.matrix.specs.Action as action
use Rattle.matrix.proofs.Matrix.{⊗-assoc, ⊗-idr, adj-⊗, det_adj, det_one, ≈-sym, ◌∙≈◌, ≈-right}
use Rattle.symbol.specs.Symbol.{IsSymbol}
use Rattle.pairing.specs.Generator.{generators}
use Rattle.pairing.specs.Subgroup.{IsWord, value_of}
use Rattle.basics.proofs.Choice.{clash, pick_true, and_left, and_right}
use Rattle.coset.specs.Positions.{start_of, followed, walk_ends, Polygon, with_sign, query_sign, FrameEquation, Positions}
use Rattle.coset.specs.Tables.{table_s, table_r}
use Rattle.right_cosets.specs.Leads.{leads}
use Rattle.coset.proofs.InWords.{coset_value, from_coset, in_words}
use Rattle.coset.proofs.Answer.{meaning}
use Rattle.call.specs.Refusal.{◌or_else◌, Answer, answer_number, Checked, outcome}
use Rattle.call.specs.declared.refusal.Refusal.TheVariants.{NoWord, TooShort}
use Rattle.call.specs.Call.{verdict}
use Rattle.symbol.specs.Check.{refuse}
use Rattle.word.specs.Answer.{placed, closes, found_word, found_sign, word_fits, word_if, found_if, found_checks, word_left, part_of, word_at}
use Rattle.word.specs.Claim.{SameRightCoset, Fits, NormalWord, Answered}
use Rattle.word.specs.declared.FoundWord.{FoundWord}
use Rattle.word.proofs.Turned.{followed_length}

-- what equal answers of checks tell has one number, and an answer has that of what it says of refusals
pub same_number : {c d : Checked} → c ≡ d → answer_number c ≡ answer_number d
same_number e = ap (λ (c : Checked). answer_number c) e

pub outcome_number : (r : Answer FoundWord) {c : Checked} → outcome r ≡ c → answer_number r ≡ answer_number c
outcome_number (Ok u) e = same_number e
outcome_number (Err f) e = same_number e

-- ---- a word in its place

pub part_placed : (start : ℕ) (l out : List ℤ) → start ≤ length out → length l ≤ length out - start → part_of (placed start l out) start (length l) ≡ l
part_placed start l out h k =
    let rest = drop (start + length l) out in
    let long : length (placed start l out) ≡ length out = ap length (sym (sets-eq l out start (omega arith))) ∙ length-sets out start l in
    pick_true (word_fits start (length l) (length (placed start l out))) (take (length l) (drop start (placed start l out))) []
    (ap (word_fits start (length l)) long ∙ ap (λ (b : Bool). b && leb (length l) (length out - start)) (le-leb start (length out) h)
    ∙ le-leb (length l) (length out - start) k)
    ∙ ap (λ (m : List ℤ). take (length l) (drop start m)) (append_assoc (take start out) l rest)
    ∙ ap (take (length l)) (drop_at (take start out) (l ++ rest) start (length-take-le start out h))
    ∙ take_at l rest (length l) refl

-- ---- letters

letter_most : (n : ℕ) (l : List ℤ) → IsWord n l → (i : ℕ) → i < length l → nat_abs (get_or l i (pos 0)) ≤ n
letter_most n [] w i h = absurd (omega arith)
letter_most n (z ∷ l) w zero h = w.0.1
letter_most n (z ∷ l) w (suc i) h = letter_most n l w.1 i (omega arith)

module _ {v : ℕ} {t : List ℤ} (ok : IsSymbol v t) (A B : Mat) (d : det A ≡ pos 1) (e : det B ≡ pos 1) where
  abbrev X : Mat
  X = B ⊗ adj A

  abbrev word : List ℤ
  word = found_word v t A B

  abbrev sign : Bool
  sign = found_sign v t A B

  all : Positions v t
  all = (meaning ok).positions

  g : Polygon v t
  g = all.polygon

  X_unit : det X ≡ pos 1
  X_unit = det_one B (adj A) e (det_adj A ∙ d)

  X_times : X ⊗ A ≡ B
  X_times = ⊗-assoc B (adj A) A ∙ ap (λ (m : Mat). B ⊗ m) (adj-⊗ A d) ∙ ⊗-idr B

  -- ---- the walk comes home exactly where a word exists

  -- a word that takes A to B has the value B A⁻¹
  joined_value : (j : SameRightCoset v t A B) → X ≈ value_of (generators v t) j.word
  joined_value j = coset_value (generators v t) A B d j

  pub joined_home : SameRightCoset v t A B → closes v t A B ≡ true
  unfolding closes
  joined_home j = eq-eqb (walk_ends v t X) (start_of v t) ((g.stabiliser X X_unit).0 (from_coset (generators v t) A B d j))

  home_product : closes v t A B ≡ true → value_of (generators v t) word ⊗ A ≈ B
  unfolding closes found_word
  home_product h = ≈-right A (≈-sym (g.found X X_unit (eqb-true (walk_ends v t X) (start_of v t) h))) ∙≈ inl X_times

  -- it is the normal form
  home_normal : closes v t A B ≡ true → NormalWord v t A B word
  unfolding closes found_word
  home_normal h =
      let f = all.normal_forms.walk X X_unit (eqb-true (walk_ends v t X) (start_of v t) h) in
      record {
        letters = f.letters;
        takes = home_product h;
        reduced = f.reduced;
        only = λ j r. f.only j.word j.letters r (joined_value j);
        shortest = λ j. f.shortest j.word j.letters (joined_value j);
      }

  -- with its sign
  home_exact : closes v t A B ≡ true → value_of (generators v t) word ⊗ A ≡ with_sign sign B
  unfolding closes found_word found_sign
  home_exact h = all.signs.pair A B d e (eqb-true (walk_ends v t X) (start_of v t) h)

  -- the walk's equation
  walk_is : FrameEquation v t (start_of v t) (followed v t X) sign word (walk_ends v t X)
  unfolding found_word found_sign query_sign action.at
  walk_is = all.walks (followed v t X) (start_of v t) (all.followed_unit X X_unit) g.start

  letters_of_lem : IsWord (length (generators v t)) word
  unfolding found_word
  letters_of_lem = g.walks.walk_letters (euclid.word_of (followed v t X)) (start_of v t) g.start

  bound_of : length word ≤ length (euclid.word_of X) + 2
  unfolding found_word
  bound_of = omega (arith, g.walks.walk_short (euclid.word_of (followed v t X)) (start_of v t), followed_length X X_unit all)

  sixteen_of : (i : ℕ) → i < length word → nat_abs (get_or word i (pos 0)) ≤ 1024
  sixteen_of i h = omega (arith, letter_most (length (generators v t)) word letters_of_lem i h, all.few_generators)

  pub home_joined : closes v t A B ≡ true → SameRightCoset v t A B
  home_joined h = record { word = word; letters = letters_of_lem; is = home_product h }

  -- ---- the same point of the tables

  pub joined_same : SameRightCoset v t A B → leads (table_s v t) (table_r v t) A ≡ leads (table_s v t) (table_r v t) B
  joined_same j = (in_words (meaning ok).cosets A B d e).1 j

  pub same_joined : leads (table_s v t) (table_r v t) A ≡ leads (table_s v t) (table_r v t) B → SameRightCoset v t A B
  same_joined q = (in_words (meaning ok).cosets A B d e).0 q

  -- ---- the three answers

  module _ (out : List ℤ) (start : ℕ) where
    abbrev Here : Answer FoundWord → List ℤ → Type 0
    Here r out' = Answered v t A B word sign out start r out'

    fits_yes : word_fits start (length word) (length out) ≡ true → Fits start (length word) (length out)
    fits_yes h = record {
      inside = leb-true start (length out) (and_left (leb start (length out)) (leb (length word) (length out - start)) h);
      enough = leb-true (length word) (length out - start) (and_right (leb start (length out)) (leb (length word) (length out - start)) h);
    }

    yes_fits : Fits start (length word) (length out) → word_fits start (length word) (length out) ≡ true
    yes_fits f = ap (λ (b : Bool). b && leb (length word) (length out - start)) (le-leb start (length out) f.inside)
        ∙ le-leb (length word) (length out - start) f.enough

    absent : closes v t A B ≡ false → Here (Err NoWord) out
    absent h =
        let no : SameRightCoset v t A B → ⊥ = λ j. clash (joined_home j) h in
        record {
          found = ((λ f. elim f [ inl z ↦ absurd (omega (arith, same_number z)) | inr z ↦ absurd (omega (arith, same_number z)) ]), (λ j. absurd (no j)));
          points = (
            (λ f. elim f [ inl z ↦ absurd (omega (arith, same_number z)) | inr z ↦ absurd (omega (arith, same_number z)) ]),
            (λ e. absurd (no (same_joined e))),
          );
          letters = λ f. letters_of_lem;
          product = λ f. elim f [ inl z ↦ absurd (omega (arith, same_number z)) | inr z ↦ absurd (omega (arith, same_number z)) ];
          normal = λ f. elim f [ inl z ↦ absurd (omega (arith, same_number z)) | inr z ↦ absurd (omega (arith, same_number z)) ];
          exact = λ f. elim f [ inl z ↦ absurd (omega (arith, same_number z)) | inr z ↦ absurd (omega (arith, same_number z)) ];
          walked = walk_is;
          signs = all.signs;
          none = ((λ z. no), (λ z. refl));
          returned = ((λ z. absurd (omega (arith, same_number z))), (λ z. absurd (no z.0)));
          short = ((λ z. absurd (omega (arith, same_number z))), (λ z. absurd (no z.0)));
          names = λ z. absurd (omega (arith, same_number z));
          stands = λ z. absurd (omega (arith, same_number z));
          untouched = λ z. refl;
          bound = bound_of;
          sixteen = sixteen_of;
        }

    fitting : closes v t A B ≡ true → word_fits start (length word) (length out) ≡ true → Here (Ok (word_at start (length word) sign)) (placed start word out)
    fitting h k =
        let j = home_joined h in
        let f = fits_yes k in
        record {
          found = ((λ z. j), (λ z. inl refl));
          points = ((λ z. joined_same j), (λ e. inl refl));
          letters = λ z. letters_of_lem;
          product = λ z. home_product h;
          normal = λ z. home_normal h;
          exact = λ z. home_exact h;
          walked = walk_is;
          signs = all.signs;
          none = ((λ z. absurd (omega (arith, same_number z))), (λ n. absurd (n j)));
          returned = ((λ z. (j, f)), (λ z. refl));
          short = ((λ z. absurd (omega (arith, same_number z))), (λ z. absurd (z.1 f)));
          names = λ z. refl;
          stands = λ z. (refl, part_placed start word out f.inside f.enough);
          untouched = λ n. absurd (n refl);
          bound = bound_of;
          sixteen = sixteen_of;
        }

    too_short_lem : closes v t A B ≡ true → word_fits start (length word) (length out) ≡ false → Here (Err (TooShort (length word))) out
    too_short_lem h k =
        let j = home_joined h in
        record {
          found = ((λ z. j), (λ z. inr refl));
          points = ((λ z. joined_same j), (λ e. inr refl));
          letters = λ z. letters_of_lem;
          product = λ z. home_product h;
          normal = λ z. home_normal h;
          exact = λ z. home_exact h;
          walked = walk_is;
          signs = all.signs;
          none = ((λ z. absurd (omega (arith, same_number z))), (λ n. absurd (n j)));
          returned = ((λ z. absurd (omega (arith, same_number z))), (λ z. clash (yes_fits z.1) k));
          short = ((λ z. (j, λ f. clash (yes_fits f) k)), (λ z. refl));
          names = λ z. absurd (omega (arith, same_number z));
          stands = λ z. absurd (omega (arith, same_number z));
          untouched = λ n. refl;
          bound = bound_of;
          sixteen = sixteen_of;
        }

-- the answer and the word space that the definitions give
module _ {v : ℕ} {t : List ℤ} (ok : IsSymbol v t) (a b : List ℤ) (d : det (of_list a) ≡ pos 1) (e : det (of_list b) ≡ pos 1) (out : List ℤ) (start : ℕ) where
  abbrev l : List ℤ
  l = found_word v t (of_list a) (of_list b)

  abbrev q : Bool
  q = found_sign v t (of_list a) (of_list b)

  abbrev Left : Answer FoundWord → Type 0
  Left r = Answered v t (of_list a) (of_list b) l q out start r (word_left r l out)

  answered_by : (home room : Bool) → closes v t (of_list a) (of_list b) ≡ home → word_fits start (length l) (length out) ≡ room
      → Left (word_if start (length l) q (refuse (not home) NoWord or_else refuse (not room) (TooShort (length l)) or_else (Ok tt)))
  answered_by false room h k = absent ok (of_list a) (of_list b) d e out start h
  answered_by true true h k = fitting ok (of_list a) (of_list b) d e out start h k
  answered_by true false h k = too_short_lem ok (of_list a) (of_list b) d e out start h k

  pub answered : Left (found_if v t a b start (verdict (found_checks v t a b start (length out))))
  answered = answered_by (closes v t (of_list a) (of_list b)) (word_fits start (length l) (length out)) refl refl
