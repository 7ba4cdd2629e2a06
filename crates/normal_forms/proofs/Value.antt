-- Reducing a word keeps its value up to sign.
--
-- In order: what is conjugate to S and to Q (`conjugate`, `even_square`, `odd_square`); the generator that a letter stands for (`Standing`, `standing`); the
-- letters of even and of odd generators (`letter_even`, `letter_odd`), and plain letters (`letter_plain`); the value of a word whose letters are listed from
-- the last one (`value_back`), with a letter put behind it (`put_value`), with a word (`puts_value`). Assumes nothing.
use mathlib.Core.Path.{◌≡◌, refl, sym, ◌∙◌, ap}
use mathlib.Core.Logic.{inl, inr}
use mathlib.Core.List.{List, [], ◌∷◌}
use Prim.Native.Nat.{ℕ, zero, suc, ◌≤◌, ◌<◌}
use native.Mathlib.Omega.{arith}
use native.Mathlib.Decide.{dec_lt}
use lib.ListN.{length, get_or, length-map, get_or-eq_default}
use lib.IntN.{ℤ, pos, negsuc, neg_ℤ, nat_abs}
use Rattle.basics.proofs.Choice.{either, clash}
use Rattle.matrix.specs.Matrix.{Mat, ◌⊗◌, 𝟙, adj, det, mat_s, mat_q, mat_p, ◌≈◌}
use Rattle.matrix.proofs.Matrix.{⊗-assoc, ⊗-idl, ⊗-idr, ⊗-neg, det_𝟙, det_adj, det_one, ⊗-adj, adj-⊗, adj_adj, adj_product, redo, S_S, Q_Q, ≈-refl, ≈-neg}
use Rattle.matrix.proofs.Matrix.{≈-sym, ◌∙≈◌, ≈-left, ≈-right, ≈-both}
use Rattle.symbol.specs.Table.{carried}
use Rattle.symbol.specs.Symbol.{IsSymbol}
use Rattle.symbol.specs.declared.Pairing.{Pairing}
use Rattle.symbol.specs.declared.Pairing.TheVariants.{Even, Odd, Bad}
use Rattle.pairing.specs.Generator.{partner, pairing_at, leaders, frame_at, generator_by, generator, generators}
use Rattle.pairing.specs.Subgroup.{letter_of, value_of}
use Rattle.pairing.proofs.Facts.{frame_det}
use Rattle.polygon.proofs.SymbolFacts.{leader, number_leads}
use Rattle.polygon.proofs.Promise.{units}
use Rattle.normal_forms.specs.Reduced.{generator_kinds, letter_kind}
use Rattle.normal_forms.specs.Reduce.{even_kind, odd_kind, plain, inverse, put, puts}
use Rattle.normal_forms.proofs.Put.{Meeting, cancels, merges, stays, meeting, put_stays, put_cancels, put_merges, inverse_even, inverse_other}
use Rattle.normal_forms.proofs.Put.{plain_even, plain_other, even_is, odd_is}
use Rattle.normal_forms.proofs.Side.{kinds, kind_negative, kind_numbered}

-- ---- conjugates of S and of Q

conjugate : (m x y : Mat) → det m ≡ pos 1 → carried m x m ⊗ carried m y m ≡ carried m (x ⊗ y) m
conjugate m x y d =
    ⊗-assoc (m ⊗ x) (adj m) (m ⊗ y ⊗ adj m)
    ∙ ap (λ (k : Mat). m ⊗ x ⊗ k) (ap (λ (k : Mat). adj m ⊗ k) (⊗-assoc m y (adj m)) ∙ redo m (y ⊗ adj m) d)
    ∙ sym (⊗-assoc (m ⊗ x) y (adj m)) ∙ ap (λ (k : Mat). k ⊗ adj m) (⊗-assoc m x y)

even_square : (m : Mat) → det m ≡ pos 1 → carried m mat_s m ⊗ carried m mat_s m ≈ 𝟙
even_square m d =
    inl (conjugate m mat_s mat_s d ∙ ap (λ (k : Mat). carried m k m) S_S)
    ∙≈ ≈-right (adj m) (inl (⊗-neg m 𝟙) ∙≈ ≈-neg (m ⊗ 𝟙) ∙≈ inl (⊗-idr m)) ∙≈ inl (⊗-adj m d)

adj_Q : adj mat_q ≡ mat_p
unfolding adj mat_q mat_p
adj_Q = refl

odd_square : (m : Mat) → det m ≡ pos 1 → carried m mat_q m ⊗ carried m mat_q m ≡ adj (carried m mat_q m)
odd_square m d =
    conjugate m mat_q mat_q d ∙ ap (λ (k : Mat). carried m k m) Q_Q
    ∙ sym (adj_product (m ⊗ mat_q) (adj m) ∙ ap (λ (k : Mat). k ⊗ adj (m ⊗ mat_q)) (adj_adj m) ∙ ap (λ (k : Mat). m ⊗ k) (adj_product m mat_q)
    ∙ ap (λ (k : Mat). m ⊗ (k ⊗ adj m)) adj_Q ∙ sym (⊗-assoc m mat_p (adj m)))

-- of an even generator the inverse is the generator itself, and of an odd one the inverse has the generator as its square
own_inverse : (g : Mat) → det g ≡ pos 1 → g ⊗ g ≈ 𝟙 → adj g ≈ g
own_inverse g d e = inl (sym (⊗-idr (adj g))) ∙≈ ≈-left (adj g) (≈-sym e) ∙≈ inl (redo g g d)

inverse_square : (g : Mat) → g ⊗ g ≡ adj g → adj g ⊗ adj g ≡ g
inverse_square g e = sym (adj_product g g) ∙ ap adj e ∙ adj_adj g

module _ (v : ℕ) (t : List ℤ) (ok : IsSymbol v t) where
  abbrev gens : List Mat
  gens = generators v t

  abbrev kind_of : ℤ → Pairing
  kind_of = letter_kind v t

  abbrev at : ℕ → Mat
  at j = get_or gens j 𝟙

  -- ---- generators by kind

  -- the side that leads generator j + 1
  record Standing (j : ℕ) : Type 0 where
    side : ℕ
    low : side ≤ v
    kind : kind_of (pos (suc j)) ≡ pairing_at v t side
    is : at j ≡ generator v t side

  standing : (j : ℕ) → j < length gens → Standing j
  standing j h =
      let l = leader v t j h in
      let n = number_leads v t l.side l.low l.leading in
      let r : j ≡ n.rank = omega (arith, l.number, n.number) in
      record {
        side = l.side;
        low = l.low;
        kind = kind_numbered v t ok l.side (pos (suc j)) l.low (sym l.number);
        is = ap at r ∙ n.is;
      }

  no_kind : (j : ℕ) → length gens ≤ j → kind_of (pos (suc j)) ≡ Bad
  unfolding letter_kind
  no_kind j h = get_or-eq_default (generator_kinds v t) Bad
      (omega (arith, length-map (leaders v t) (pairing_at v t), length-map (leaders v t) (generator v t)))

  generator_is : (j : ℕ) (k : Pairing) (s : Standing j) → kind_of (pos (suc j)) ≡ k → at j
      ≡ generator_by k (frame_at v t s.side) (frame_at v t (partner v t s.side))
  generator_is j k s e = s.is ∙ ap (λ (x : Pairing). generator_by x (frame_at v t s.side) (frame_at v t (partner v t s.side))) (sym s.kind ∙ e)

  square_even : (j : ℕ) → kind_of (pos (suc j)) ≡ Even → at j ⊗ at j ≈ 𝟙
  square_even j e = elim (dec_lt j (length gens)) [
    | yes h ↦
        (let s = standing j h in
        let g = generator_is j Even s e in
        inl (ap (λ (k : Mat). k ⊗ k) g) ∙≈ even_square (frame_at v t s.side) (frame_det v t ok s.side s.low))
    | no h ↦ clash (ap even_kind e) (ap even_kind (no_kind j (omega arith)))
  ]

  square_odd : (j : ℕ) → kind_of (pos (suc j)) ≡ Odd → at j ⊗ at j ≡ adj (at j)
  square_odd j e = elim (dec_lt j (length gens)) [
    | yes h ↦
        (let s = standing j h in
        let g = generator_is j Odd s e in
        ap (λ (k : Mat). k ⊗ k) g ∙ odd_square (frame_at v t s.side) (frame_det v t ok s.side s.low) ∙ ap adj (sym g))
    | no h ↦ clash (ap odd_kind e) (ap odd_kind (no_kind j (omega arith)))
  ]

  -- ---- letters

  abbrev mat : ℤ → Mat
  mat z = letter_of gens z

  upright : (j : ℕ) → kind_of (negsuc j) ≡ kind_of (pos (suc j))
  upright j = kind_negative v t (pos (suc j))

  pub unit_letter : (z : ℤ) → det (mat z) ≡ pos 1
  unit_letter (pos zero) = det_𝟙
  unit_letter (pos (suc j)) = units v t ok j
  unit_letter (negsuc j) = det_adj (at j) ∙ units v t ok j

  letter_negative : (z : ℤ) → mat (neg_ℤ z) ⊗ mat z ≡ 𝟙
  letter_negative (pos zero) = ⊗-idl 𝟙
  letter_negative (pos (suc j)) = adj-⊗ (at j) (units v t ok j)
  letter_negative (negsuc j) = ⊗-adj (at j) (units v t ok j)

  -- an even letter has one value up to sign, inverted or not
  letter_even : (z : ℤ) → kind_of z ≡ Even → (mat z ⊗ mat z ≈ 𝟙) × (mat (pos (nat_abs z)) ≈ mat z)
  letter_even (pos zero) e = clash (ap even_kind e) (ap even_kind (kinds v t).none)
  letter_even (pos (suc j)) e = (square_even j e, ≈-refl)
  letter_even (negsuc j) e =
      let s = square_even j (sym (upright j) ∙ e) in
      let o = own_inverse (at j) (units v t ok j) s in
      (≈-both o o ∙≈ s, ≈-sym o)

  letter_odd : (z : ℤ) → kind_of z ≡ Odd → mat z ⊗ mat z ≡ mat (neg_ℤ z)
  letter_odd (pos zero) e = clash (ap odd_kind e) (ap odd_kind (kinds v t).none)
  letter_odd (pos (suc j)) e = square_odd j e
  letter_odd (negsuc j) e = inverse_square (at j) (square_odd j (sym (upright j) ∙ e))

  letter_plain : (z : ℤ) → mat (plain kind_of z) ≈ mat z
  letter_plain z = elim (either (even_kind (kind_of z))) [
    | inl e ↦ inl (ap mat (plain_even kind_of z e)) ∙≈ (letter_even z (even_is (kind_of z) e)).1
    | inr e ↦ inl (ap mat (plain_other kind_of z e))
  ]

  letter_inverse : (a : ℤ) → mat (inverse kind_of a) ⊗ mat a ≈ 𝟙
  letter_inverse a = elim (either (even_kind (kind_of a))) [
    | inl e ↦ inl (ap (λ (x : ℤ). mat x ⊗ mat a) (inverse_even kind_of a e)) ∙≈ (letter_even a (even_is (kind_of a) e)).0
    | inr e ↦ inl (ap (λ (x : ℤ). mat x ⊗ mat a) (inverse_other kind_of a e) ∙ letter_negative a)
  ]

  -- ---- words from the last letter

  abbrev pub value_back : List ℤ → Mat
  value_back [] = 𝟙
  value_back (a ∷ h) = value_back h ⊗ mat a

  pub unit_back : (h : List ℤ) → det (value_back h) ≡ pos 1
  unit_back [] = det_𝟙
  unit_back (a ∷ h) = det_one (value_back h) (mat a) (unit_back h) (unit_letter a)

  pub unit_word : (w : List ℤ) → det (value_of gens w) ≡ pos 1
  unit_word [] = det_𝟙
  unit_word (z ∷ w) = det_one (mat z) (value_of gens w) (unit_letter z) (unit_word w)

  put_value : (a : ℤ) (h : List ℤ) → value_back (put kind_of h a) ≈ value_back h ⊗ mat a
  put_value a h = go (meeting kind_of a h)
    where
      go : Meeting kind_of a h → value_back (put kind_of h a) ≈ value_back h ⊗ mat a
      go (cancels r e) =
          inl (ap (λ (k : List ℤ). value_back (put kind_of k a)) e ∙ ap value_back (put_cancels kind_of a r) ∙ sym (⊗-idr (value_back r)))
          ∙≈ ≈-left (value_back r) (≈-sym (letter_inverse a))
          ∙≈ inl (sym (⊗-assoc (value_back r) (mat (inverse kind_of a)) (mat a)) ∙ ap (λ (k : List ℤ). value_back k ⊗ mat a) (sym e))
      go (merges r o e) =
          inl (ap (λ (k : List ℤ). value_back (put kind_of k a)) e ∙ ap value_back (put_merges kind_of (kinds v t) a r o)
          ∙ ap (λ (k : Mat). value_back r ⊗ k) (sym (letter_odd a (odd_is (kind_of a) o)))
          ∙ sym (⊗-assoc (value_back r) (mat a) (mat a)) ∙ ap (λ (k : List ℤ). value_back k ⊗ mat a) (sym e))
      go (stays m) = inl (ap value_back (put_stays kind_of a h m))

  pub puts_value : (w h : List ℤ) → value_back (puts kind_of h w) ≈ value_back h ⊗ value_of gens w
  puts_value [] h = inl (sym (⊗-idr (value_back h)))
  puts_value (z ∷ w) h =
      puts_value w (put kind_of h (plain kind_of z))
      ∙≈ ≈-right (value_of gens w) (put_value (plain kind_of z) h ∙≈ ≈-left (value_back h) (letter_plain z))
      ∙≈ inl (⊗-assoc (value_back h) (mat z) (value_of gens w))
