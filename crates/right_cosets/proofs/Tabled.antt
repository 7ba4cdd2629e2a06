-- What tables of right cosets say in short. In order: S, R and Q keep to the points (`S_low`, `R_low`, `Q_low`); the identity leads to point 0 (`one_home`),
-- which is a point (`some_points`); the same tables stand where the subgroup is the same (`cosets_as`).
-- Assumes nothing.
use mathlib.Core.Path.{◌≡◌, refl}
use mathlib.Core.Logic.{◌↔◌}
use mathlib.Core.List.{List}
use Prim.Native.Nat.{ℕ, ◌<◌}
use native.Mathlib.Omega.{arith}
use Rattle.matrix.specs.Matrix.{Mat, ◌⊗◌, 𝟙, adj}
use Rattle.matrix.proofs.Matrix.{det_𝟙}
use Rattle.numbering.specs.Table.{image_at}
use Rattle.right_cosets.specs.Leads.{by_table_q, leads}
use Rattle.right_cosets.specs.Cosets.{CosetsOf}
use Rattle.right_cosets.proofs.Place.{adj_𝟙}

module _ {C : Mat → Type 0} {n : ℕ} {s r : List ℕ} (a : CosetsOf C n s r) where
  pub S_low : (x : ℕ) → x < n → image_at s x < n
  S_low x h = rw a.size_S at (a.permutes_S.low x (rw a.size_S h))

  pub R_low : (x : ℕ) → x < n → image_at r x < n
  R_low x h = rw a.size_R at (a.permutes_R.low x (rw a.size_R h))

  pub Q_low : (x : ℕ) → x < n → by_table_q s r x < n
  Q_low x h = S_low (image_at r (image_at r (image_at s x))) (R_low (image_at r (image_at s x)) (R_low (image_at s x) (S_low x h)))

  pub one_home : leads s r 𝟙 ≡ 0
  one_home = (a.fixes 𝟙 det_𝟙).1 (rw (adj_𝟙 𝟙) at ((a.cosets 𝟙 𝟙 det_𝟙 det_𝟙).0 refl))

  pub some_points : 0 < n
  some_points = let h = a.low 𝟙 det_𝟙 in omega arith

pub cosets_as : {C C' : Mat → Type 0} → ((m : Mat) → C m ↔ C' m) → {n : ℕ} {s r : List ℕ} → CosetsOf C n s r → CosetsOf C' n s r
cosets_as same a = record {
  size_S = a.size_S;
  size_R = a.size_R;
  permutes_S = a.permutes_S;
  permutes_R = a.permutes_R;
  twice = a.twice;
  thrice = a.thrice;
  low = a.low;
  by_S = a.by_S;
  by_R = a.by_R;
  fixes = λ m u. let e = same m in let f = a.fixes m u in (λ h. e.0 (f.0 h), λ h. f.1 (e.1 h));
  cosets = λ l m u k.
      let e = same (l ⊗ adj m) in
      let f = a.cosets l m u k in
      (λ h. e.0 (f.0 h), λ h. f.1 (e.1 h));
  reached = a.reached;
  numbered = a.numbered;
}
