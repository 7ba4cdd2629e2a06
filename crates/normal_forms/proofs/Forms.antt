-- THE THEOREM: every accepted symbol has what specs/Theorem.antt promises (`normal_forms`).
--
-- In order: a reduced word is its own reduction (`reduced_own`); a reduced word with the value of m is the normal form of m (`form_of`); the word that
-- a walk writes is reduced (`walk_reduced`); a word reduced letter by letter (`reduce_is`); `normal_forms`.
-- Assumes nothing.
use mathlib.Core.Path.{◌≡◌, sym, ◌∙◌, ap}
use mathlib.Core.List.{List, [], reverse, reverse-reverse}
use Prim.Native.Nat.{ℕ, ◌≤◌}
use native.Mathlib.Omega.{arith}
use lib.ListN.{length, length-reverse}
use lib.IntN.{ℤ, pos}
use Rattle.matrix.specs.Matrix.{Mat, det, ◌≈◌}
use Rattle.matrix.specs.Euclid.{word_of}
use Rattle.matrix.proofs.Matrix.{≈-refl, ≈-sym, ◌∙≈◌}
use Rattle.matrix.proofs.Existence.{existence}
use Rattle.symbol.specs.Symbol.{IsSymbol}
use Rattle.symbol.specs.declared.Pairing.{Pairing}
use Rattle.pairing.specs.Generator.{generators}
use Rattle.pairing.specs.Subgroup.{IsWord, value_of, InH}
use Rattle.polygon.specs.Step.{start_of}
use Rattle.polygon.specs.Walk.{followed, walk_ends, walk_writes}
use Rattle.polygon.specs.Theorem.{Polygon}
use Rattle.polygon.proofs.Flip.{cutting}
use Rattle.polygon.proofs.Followed.{followed_unit}
use Rattle.polygon.proofs.Polygon.{polygon}
use Rattle.normal_forms.specs.Reduced.{letter_kind, Reduced}
use Rattle.normal_forms.specs.Reduce.{puts, reduce}
use Rattle.normal_forms.specs.Theorem.{NormalForm, NormalForms}
use Rattle.normal_forms.proofs.Put.{puts_fine_word, puts_length}
use Rattle.normal_forms.proofs.Side.{kinds}
use Rattle.normal_forms.proofs.Clauses.{reduced_fine, fine_reduced}
use Rattle.normal_forms.proofs.Alternate.{walk_fine}
use Rattle.normal_forms.proofs.Value.{unit_word}
use Rattle.normal_forms.proofs.Reached.{one_reduction}

module _ (v : ℕ) (t : List ℤ) (ok : IsSymbol v t) where
  abbrev gens : List Mat
  gens = generators v t

  abbrev kind_of : ℤ → Pairing
  kind_of = letter_kind v t

  abbrev Words : List ℤ → Type 0
  Words w = IsWord (length gens) w

  g : Polygon v t
  g = polygon v t ok

  reduced_own : (w : List ℤ) → Reduced v t w → puts kind_of [] w ≡ reverse w
  reduced_own w r = puts_fine_word kind_of (kinds v t) w (reduced_fine v t w r)

  same_word : (u w : List ℤ) → Words u → Words w → Reduced v t u → Reduced v t w → value_of gens u ≈ value_of gens w → u ≡ w
  same_word u w a b r s e =
      sym (reverse-reverse u) ∙ ap reverse (sym (reduced_own u r) ∙ one_reduction v t ok u w a b e ∙ reduced_own w s) ∙ reverse-reverse w

  least : (u w : List ℤ) → Words u → Words w → Reduced v t u → value_of gens u ≈ value_of gens w → length u ≤ length w
  least u w a b r e = omega (
    arith,
    length-reverse u,
    ap length (sym (reduced_own u r) ∙ one_reduction v t ok u w a b e),
    puts_length kind_of (kinds v t) w [],
  )

  form_of : (m : Mat) (w : List ℤ) → Words w → m ≈ value_of gens w → Reduced v t w → NormalForm v t m w
  form_of m w b e r = record {
    letters = b;
    is = e;
    reduced = r;
    only = λ u a s d. same_word u w a b s r (≈-sym d ∙≈ e);
    shortest = λ u a d. least w u b a r (≈-sym e ∙≈ d);
  }

  -- ---- the walk

  walk_letters : (m : Mat) → Words (walk_writes v t m)
  walk_letters m = g.walks.walk_letters (word_of (followed v t m)) (start_of v t) g.start

  walk_reduced : (m : Mat) → det m ≡ pos 1 → Reduced v t (walk_writes v t m)
  walk_reduced m d = fine_reduced v t (walk_writes v t m)
      (walk_fine v t ok (cutting v t ok) g (word_of (followed v t m)) (start_of v t) g.start (existence (followed v t m) (followed_unit v t m d)).0)

  walk_form : (m : Mat) → det m ≡ pos 1 → walk_ends v t m ≡ start_of v t → NormalForm v t m (walk_writes v t m)
  walk_form m d h = form_of m (walk_writes v t m) (walk_letters m) (g.found m d h) (walk_reduced m d)

  element_form : (m : Mat) → det m ≡ pos 1 → InH gens m → NormalForm v t m (walk_writes v t m)
  element_form m d h = walk_form m d ((g.stabiliser m d).0 h)

  -- ---- words

  in_H : (w : List ℤ) → Words w → InH gens (value_of gens w)
  in_H w b = record { word = w; letters = b; is = ≈-refl }

  -- a word is reduced to what the walk for its value writes
  reduce_is : (w : List ℤ) → Words w → reverse (puts kind_of [] w) ≡ walk_writes v t (value_of gens w)
  reduce_is w b =
      let f = element_form (value_of gens w) (unit_word v t ok w) (in_H w b) in
      let u = walk_writes v t (value_of gens w) in
      ap reverse (one_reduction v t ok w u b f.letters f.is ∙ reduced_own u f.reduced) ∙ reverse-reverse u

  reduce_form : (w : List ℤ) → Words w → NormalForm v t (value_of gens w) (reduce v t w)
  unfolding reduce
  reduce_form w b = rw (reduce_is w b) (element_form (value_of gens w) (unit_word v t ok w) (in_H w b))

  pub normal_forms : NormalForms v t
  normal_forms = record {
    walk = walk_form;
    element = element_form;
    word = λ w b r. (
      in_H w b,
      (let f = element_form (value_of gens w) (unit_word v t ok w) (in_H w b) in
          same_word (walk_writes v t (value_of gens w)) w f.letters b f.reduced r (≈-sym f.is)),
    );
    apart = same_word;
    reduces = reduce_form;
  }
