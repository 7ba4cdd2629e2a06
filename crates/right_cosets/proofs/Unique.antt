-- What `CosetsOf C n s r` says is said of no other tables: n is the index (`cosets_count`), and s and r are determined (`cosets_unique`).
-- Why: points go over into points by the matrices that lead to them, one to one, 0 into 0, S into S and R into R. Both are numbered by the rule, so
-- each point goes over into itself.
-- Assumes nothing.
use mathlib.Core.Path.{◌≡◌, sym, ap, ◌∙◌}
use mathlib.Core.List.{List, map}
use Prim.Native.Nat.{ℕ, ◌<◌}
use native.Mathlib.Omega.{arith}
use native.Mathlib.Decide.{dec_lt}
use lib.ListN.{get_or}
use lib.Seq.{ext_get_or}
use Rattle.matrix.specs.Matrix.{Mat, ◌⊗◌, 𝟙, mat_s, mat_r}
use Rattle.matrix.proofs.Matrix.{det_𝟙, det_one, det_letter}
use Rattle.matrix.specs.Words.{S}
use Rattle.numbering.specs.Order.{up_to, Maps}
use Rattle.numbering.specs.Table.{image_at}
use Rattle.numbering.proofs.Table.{get_d_map}
use Rattle.numbering.proofs.Numbered.{up_to_length, up_to_at}
use Rattle.right_cosets.specs.Condition.{Unit, Condition}
use Rattle.right_cosets.specs.Transversal.{Everything, Index}
use Rattle.right_cosets.specs.Leads.{leads}
use Rattle.right_cosets.specs.Cosets.{CosetsOf}
use Rattle.right_cosets.proofs.Transversal.{one_length}
use Rattle.right_cosets.proofs.Place.{det_R}
use Rattle.numbering.proofs.Over.{to_over}

module _ {C : Mat → Type 0} {n : ℕ} {s r : List ℕ} (a : CosetsOf C n s r) where
  -- a matrix that leads to j
  chosen : (j : ℕ) → Dec (j < n) → Mat
  chosen j (yes h) = (a.reached j h).matrix
  chosen j (no h) = 𝟙

  chosen_unit : (j : ℕ) (x : Dec (j < n)) → Unit (chosen j x)
  unfolding chosen
  chosen_unit j (yes h) = (a.reached j h).unit
  chosen_unit j (no h) = det_𝟙

  chosen_leads : (j : ℕ) (x : Dec (j < n)) → j < n → leads s r (chosen j x) ≡ j
  unfolding chosen
  chosen_leads j (yes h) l = (a.reached j h).is
  chosen_leads j (no h) l = absurd (h l)

  pub to : ℕ → Mat
  to j = chosen j (dec_lt j n)

  pub to_unit : (j : ℕ) → Unit (to j)
  unfolding to
  to_unit j = chosen_unit j (dec_lt j n)

  pub to_leads : (j : ℕ) → j < n → leads s r (to j) ≡ j
  unfolding to
  to_leads j h = chosen_leads j (dec_lt j n) h

  pub cosets_index : Index Everything C n
  cosets_index = record {
    rep = to;
    transversal = record {
      member = λ j h. record { unit = to_unit j; meets = tt };
      place = λ m h.
          let j = leads s r m in
          let l = a.low m h.unit in
          record {
            at = j;
            low = l;
            hit = (a.cosets m (to j) h.unit (to_unit j)).0 (sym (to_leads j l));
            only = λ k q c. sym (to_leads k q) ∙ sym ((a.cosets m (to k) h.unit (to_unit k)).1 c);
          };
    };
  }

-- the number of points is the index
pub cosets_count : {C : Mat → Type 0} → Condition C → {n n' : ℕ} {s r : List ℕ} → CosetsOf C n s r → Index Everything C n' → n ≡ n'
cosets_count c a i = one_length c (cosets_index a).transversal i.transversal

module _ {C : Mat → Type 0} (c : Condition C) {n : ℕ} {s r s' r' : List ℕ} (a : CosetsOf C n s r) (b : CosetsOf C n s' r') where
  -- where a point goes over
  f : ℕ → ℕ
  f j = leads s' r' (to a j)

  f_leads : (m : Mat) → Unit m → f (leads s r m) ≡ leads s' r' m
  unfolding f
  f_leads m u =
      let j = leads s r m in
      (b.cosets (to a j) m (to_unit a j) u).1 ((a.cosets (to a j) m (to_unit a j) u).0 (to_leads a j (a.low m u)))

  f_one : (x y : ℕ) → x < n → y < n → f x ≡ f y → x ≡ y
  unfolding f
  f_one x y h k e = sym (to_leads a x h)
      ∙ (a.cosets (to a x) (to a y) (to_unit a x) (to_unit a y)).1 ((b.cosets (to a x) (to a y) (to_unit a x) (to_unit a y)).0 e) ∙ to_leads a y k

  f_S : (x : ℕ) → x < n → f (image_at s x) ≡ image_at s' (f x)
  unfolding f
  f_S x h =
      let m = to a x in
      let u = to_unit a x in
      ap f (ap (image_at s) (sym (to_leads a x h)) ∙ sym (a.by_S m u)) ∙ f_leads (m ⊗ mat_s) (det_one m mat_s u (det_letter S)) ∙ b.by_S m u

  f_R : (x : ℕ) → x < n → f (image_at r x) ≡ image_at r' (f x)
  unfolding f
  f_R x h =
      let m = to a x in
      let u = to_unit a x in
      ap f (ap (image_at r) (sym (to_leads a x h)) ∙ sym (a.by_R m u)) ∙ f_leads (m ⊗ mat_r) (det_one m mat_r u det_R) ∙ b.by_R m u

  leads_one : {t q : List ℕ} → CosetsOf C n t q → leads t q 𝟙 ≡ 0
  leads_one k = (k.fixes 𝟙 det_𝟙).1 c.one

  f_zero : f 0 ≡ 0
  f_zero = ap f (sym (leads_one a)) ∙ f_leads 𝟙 det_𝟙 ∙ leads_one b

  maps : Maps (image_at s) (image_at r) 0 n
  maps = record {
    start_low = rw (leads_one a) at (a.low 𝟙 det_𝟙);
    σ_low = λ x h. rw a.size_S at (a.permutes_S.low x (rw a.size_S h));
    ρ_low = λ x h. rw a.size_R at (a.permutes_R.low x (rw a.size_R h));
  }

  over : up_to n ≡ map f (up_to n)
  over = rw (f_zero, a.numbered, b.numbered) at (to_over n f f_one (image_at s) (image_at r) (image_at s') (image_at r') 0 maps f_S f_R n)

  still : (j : ℕ) → j < n → f j ≡ j
  still j h =
      let l = up_to_length n in
      let k = up_to_at n j h in
      sym (ap (λ (t : List ℕ). get_or t j 0) over ∙ get_d_map f (up_to n) j (omega arith) ∙ ap f k) ∙ k

  pub cosets_unique : (s ≡ s') × (r ≡ r')
  cosets_unique = (
    ext_get_or 0 s s' (a.size_S ∙ sym b.size_S) (λ j h. let k : j < n = omega (arith, a.size_S) in
        sym (still (image_at s j) (maps.σ_low j k)) ∙ f_S j k ∙ ap (image_at s') (still j k)),
    ext_get_or 0 r r' (a.size_R ∙ sym b.size_R) (λ j h. let k : j < n = omega (arith, a.size_R) in
        sym (still (image_at r j) (maps.ρ_low j k)) ∙ f_R j k ∙ ap (image_at r') (still j k)),
  )
