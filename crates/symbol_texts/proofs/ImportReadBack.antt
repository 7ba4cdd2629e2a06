-- THE LINES OF A SYMBOL ARE READ AS THE SYMBOL.
--
-- Why: in a line each number has a space or a line feed behind it, so the pieces of the lines are the decimal forms of the numbers (`line_says`,
-- `lines_say`). A symbol's entries are at most 10⁹ in size and its pairings at most 1,024 (`entry_size`): 12 bytes hold each with its blank, and
-- 3·1,023 + 2 numbers take less than 65,536 (`lines_short`). The theorems: `lines_read_back`, `symbol_read_back`, `print_means`.
-- Assumes nothing.
use Rattle.std.specs.Prelude.{Ok, Some}
use mathlib.Core.Path.{◌≡◌, refl, sym, ap, ◌∙◌}
use mathlib.Core.Logic.{◌⊎◌, inl, inr}
use mathlib.Core.List.{List, [], ◌∷◌, ◌++◌, append_assoc, append-nil}
use Prim.Native.Nat.{ℕ, suc, ◌+◌, ◌-◌, ◌*◌, ◌/◌, ◌%◌, ◌≤◌, ◌<◌}
use native.Mathlib.Decide.{dec_lt, ℕ_discrete}
use native.Mathlib.Omega.{arith}
use lib.IntN.{ℤ, pos, negsuc, nat_abs}
use lib.ListN.{length, take, drop, length-append, length-drop, take-append-drop}
use lib.Seq.{length-take-le, get_or-take, get_or-drop}
use borrow.Author.Tests.{le-leb}
use Rattle.call.specs.Refusal.{◌or_else◌, Checked}
use Rattle.call.proofs.Answers.{pass_both}
use Rattle.call.specs.Inner.Fills.{made_if}
use Rattle.matrix.specs.Matrix.{nth}
use Rattle.text.specs.Blank.{is_blank}
use Rattle.decimal.specs.Decimal.{decimal_of}
use Rattle.text.specs.Laws.{Inside64}
use Rattle.text.specs.Reading.{symbol_format, text_most, wanted}
use Rattle.text.proofs.Says.{Says, says_none, says_number, says_numbers, says_reading}
use Rattle.text.specs.Line.{natural, spaced}
use Rattle.decimal.proofs.Decimals.{decimal_most}
use Rattle.symbol.specs.Table.{pairing_entry}
use Rattle.symbol.specs.Symbol.{FreeLabel, IsSymbol}
use Rattle.import_symbol.specs.Answer.{check16, ruled_table}
use Rattle.import_rule.specs.Order.{Order}
use Rattle.import_rule.specs.Symbol.{ruled_by}
use Rattle.permutations.specs.Check.{pair_check}
use Rattle.import_call.specs.Import.{needed_vertices}
use Rattle.permutations.proofs.Accepted.{accepted}
use Rattle.import_call.proofs.Means.{made_means}
use Rattle.symbol_texts.specs.ImportAnswer.{number_line, symbol_lines, Request, lines_by, import_lines, lines_for}
use Rattle.symbol_texts.specs.ReadBack.{ReadBack, SymbolReadBack, PrintMeans}

-- ---- what the lines say

abbrev pub Each64 : List ℤ → Type 0
Each64 zs = (i : ℕ) → i < length zs → Inside64 (nth zs i)

line_says : (z : ℤ) (zs : List ℤ) (u : List ℕ) (ys : List ℤ) → Inside64 z → Each64 zs → Says u ys
    → Says (decimal_of z ++ (spaced zs ++ (10 ∷ u))) (z ∷ (zs ++ ys))
unfolding spaced is_blank
line_says z [] u ys h k s = says_number z 10 u ys h refl s
line_says z (y ∷ zs) u ys h k s =
    let rest = line_says y zs u ys (k 0 (omega arith)) (λ i l. k (suc i) (omega arith)) s in
    rw (append_assoc (decimal_of y) (spaced zs) (10 ∷ u)) (says_number z 32 (decimal_of y ++ (spaced zs ++ (10 ∷ u))) (y ∷ (zs ++ ys)) h refl rest)

pub number_line_says : (zs : List ℤ) (u : List ℕ) (ys : List ℤ) → 1 ≤ length zs → Each64 zs → Says u ys → Says (number_line zs ++ u) (zs ++ ys)
unfolding number_line
number_line_says [] u ys n k s = absurd (omega arith)
number_line_says (z ∷ zs) u ys n k s =
    rw (append_assoc (decimal_of z) (spaced zs ++ (10 ∷ [])) u, append_assoc (spaced zs) (10 ∷ []) u)
    (line_says z zs u ys (k 0 (omega arith)) (λ i l. k (suc i) (omega arith)) s)

pub says_as : {t t' : List ℕ} {zs zs' : List ℤ} → t ≡ t' → zs ≡ zs' → Says t zs → Says t' zs'
says_as {t} {t'} {zs} {zs'} e f s = rw (← e, ← f) s

-- three lines, and three lists of numbers, one after another
pub three : {A : Type 0} (a b c : List A) → a ++ (b ++ (c ++ [])) ≡ a ++ b ++ c
three {A} a b c = ap (λ (l : List A). a ++ (b ++ l)) (append-nil c) ∙ sym (append_assoc a b c)

module _ (v : ℕ) (t : List ℤ) (low : 1 ≤ v) (high : v ≤ 1023) (long : length t ≡ 3 * v + 1) (each : Each64 t) where
  front_length : length (take (2 * v) t) ≡ 2 * v
  front_length = length-take-le (2 * v) t (omega (arith, long))

  back_length : length (drop (2 * v) t) ≡ v + 1
  back_length = length-drop (2 * v) t ∙ omega (arith, long)

  lines_say : Says (symbol_lines v t) (natural v ∷ t)
  unfolding symbol_lines
  lines_say =
      let third = number_line_says (drop (2 * v) t) [] [] (omega (arith, back_length))
      (λ i l. rw (get_or-drop (2 * v) t i (pos 0)) (each (2 * v + i) (omega (arith, long, back_length)))) says_none in
      let second = number_line_says (take (2 * v) t) (number_line (drop (2 * v) t) ++ []) (drop (2 * v) t ++ []) (omega (arith, front_length))
      (λ i l. rw (get_or-take (2 * v) t i (pos 0) (omega (arith, front_length))) (each i (omega (arith, long, front_length)))) third in
      let first = number_line_says (natural v ∷ []) (number_line (take (2 * v) t) ++ (number_line (drop (2 * v) t) ++ []))
      (take (2 * v) t ++ (drop (2 * v) t ++ [])) (omega arith) (λ i l. let z : i ≡ 0 = omega arith in rw z (omega arith)) second in
      says_as (three (number_line (natural v ∷ [])) (number_line (take (2 * v) t)) (number_line (drop (2 * v) t)))
      (ap (λ (l : List ℤ). natural v ∷ l) (ap (λ (l : List ℤ). take (2 * v) t ++ l) (append-nil (drop (2 * v) t)) ∙ take-append-drop (2 * v) t)) first

  in_range : wanted symbol_format (natural v) ≡ Some (3 * v + 2)
  unfolding wanted
  in_range = rw (le-leb 1 v low, le-leb v 1023 high)

pub lines_read_back : (v : ℕ) (t : List ℤ) → 1 ≤ v → v ≤ 1023 → length t ≡ 3 * v + 1 → Each64 t → length (symbol_lines v t) ≤ text_most
    → ReadBack v t (symbol_lines v t)
lines_read_back v t n m long each short =
    let s = lines_say v t n m long each in
    let w = in_range v t n m long each in
    let k : suc (length t) ≡ 3 * v + 2 = omega arith in
    record {
      short = short;
      says = says_numbers symbol_format (symbol_lines v t) (natural v) t (3 * v + 2) s w k;
      handed = λ room h. says_reading symbol_format (symbol_lines v t) (natural v) t (3 * v + 2) s w k room short h;
    }

-- ---- how long the lines are

small_inside : (z : ℤ) → nat_abs z ≤ 1000000000 → Inside64 z
small_inside (pos n) h = omega arith
small_inside (negsuc n) h = omega arith

abbrev EachSmall : List ℤ → Type 0
EachSmall zs = (i : ℕ) → i < length zs → nat_abs (nth zs i) ≤ 1000000000

small_length : (z : ℤ) → nat_abs z ≤ 1000000000 → length (decimal_of z) ≤ 11
small_length z h = decimal_most 10 z (omega arith) (omega arith)

spaced_length : (zs : List ℤ) → EachSmall zs → length (spaced zs) ≤ 12 * length zs
unfolding spaced
spaced_length [] h = omega arith
spaced_length (z ∷ zs) h =
    let r = spaced_length zs (λ i l. h (suc i) (omega arith)) in
    omega (arith, small_length z (h 0 (omega arith)), length-append (32 ∷ decimal_of z) (spaced zs))

line_length : (zs : List ℤ) → EachSmall zs → length (number_line zs) ≤ 12 * length zs + 1
unfolding number_line
line_length [] h = omega arith
line_length (z ∷ zs) h =
    omega (
      arith,
      small_length z (h 0 (omega arith)),
      spaced_length zs (λ i l. h (suc i) (omega arith)),
      length-append (decimal_of z) (spaced zs ++ (10 ∷ [])),
      length-append (spaced zs) (10 ∷ []),
    )

lines_short : (v : ℕ) (t : List ℤ) → v ≤ 1023 → length t ≡ 3 * v + 1 → EachSmall t → length (symbol_lines v t) ≤ text_most
unfolding symbol_lines
lines_short v t m long h =
    let f = length-take-le (2 * v) t (omega (arith, long)) in
    let b = length-drop (2 * v) t in
    omega (
      arith,
      f,
      b,
      long,
      line_length (natural v ∷ []) (λ i l. let z : i ≡ 0 = omega arith in rw z (omega arith)),
      line_length (take (2 * v) t) (λ i l. rw (get_or-take (2 * v) t i (pos 0) (omega (arith, f))) (h i (omega (arith, long, f)))),
      line_length (drop (2 * v) t) (λ i l. rw (get_or-drop (2 * v) t i (pos 0)) (h (2 * v + i) (omega (arith, long, b)))),
      length-append (number_line (natural v ∷ []) ++ number_line (take (2 * v) t)) (number_line (drop (2 * v) t)),
      length-append (number_line (natural v ∷ [])) (number_line (take (2 * v) t)),
    )

-- ---- the entries of a symbol

pairing_size : (v : ℕ) (t : List ℤ) (x : ℤ) → v ≤ 1023 → (x ≡ negsuc 1) ⊎ (x ≡ negsuc 2) ⊎ FreeLabel v t x → nat_abs x ≤ 1000000000
pairing_size v t x m (inl e) = rw e (omega arith)
pairing_size v t x m (inr (inl e)) = rw e (omega arith)
pairing_size v t x m (inr (inr f)) = rw f.is (omega (arith, f.high))

entry_size : (v : ℕ) (t : List ℤ) → IsSymbol v t → EachSmall t
entry_size v t s i h = elim (dec_lt i (2 * v)) [
  | yes l ↦ vertex (ℕ_discrete (i % 2) 0) l
  | no l ↦ let k : 2 * v + (i - 2 * v) ≡ i = omega arith in
      let g = pairing_size v t (pairing_entry v t (i - 2 * v)) s.most (s.pairings (i - 2 * v) (omega (arith, s.long))) in
      rw (get_or-drop (2 * v) t (i - 2 * v) (pos 0), k) at g
]
  where
    vertex : Dec (i % 2 ≡ 0) → i < 2 * v → nat_abs (nth t i) ≤ 1000000000
    vertex (yes e) l = let k : 2 * (i / 2) ≡ i = omega arith in rw k at (s.numers (i / 2) (omega arith))
    vertex (no e) l = let k : 2 * (i / 2) + 1 ≡ i = omega arith in rw k at (s.denoms (i / 2) (omega arith)).1

pub symbol_read_back : SymbolReadBack
symbol_read_back v t s =
    let h = entry_size v t s in
    lines_read_back v t s.some s.most s.long (λ i l. small_inside (nth t i) (h i l)) (lines_short v t s.most s.long h)

-- ---- what the import prints

pub print_means : (order : Order) (a : Request) (bytes : List ℕ) → bytes ≡ lines_for order a → PrintMeans order a bytes
unfolding import_lines
print_means order a bytes e s r f c o =
    let g = made_means order s r ((accepted s r).0 c) o in
    let v = needed_vertices r in
    let t = ruled_table (ruled_by order s r) in
    let made : (pair_check s r or_else check16 (ruled_by order s r)) ≡ (Ok tt) = pass_both (pair_check s r) (check16 (ruled_by order s r)) c o in
    let b : bytes ≡ symbol_lines v t = e ∙ ap (lines_for order) f ∙ ap (λ (x : Checked). lines_by (made_if v x) t) made in
    record { symbol = g; read_back = rw b (symbol_read_back v t g.precisely.symbol) }
