-- What a walk over the cosets leaves are their tables: `walked_cosets`.
-- Why: from the identity, S and R lead into cosets that are there, and Q is S R R S up to sign; so every matrix is in a coset that is there.
-- Assumes nothing.
use mathlib.Core.Path.{◌≡◌, sym, ◌∙◌, ap}
use mathlib.Core.Logic.{inl, inr}
use mathlib.Core.Bool.{Bool}
use mathlib.Core.List.{List, [], ◌∷◌}
use Prim.Native.Nat.{ℕ, ◌<◌}
use native.Mathlib.Omega.{arith}
use lib.ListN.{length}
use lib.Seq.{ext_get_or}
use Rattle.matrix.specs.Matrix.{Mat, ◌⊗◌, 𝟙, adj, mat_s, mat_r, mat_q, mat_p, ◌≈◌}
use Rattle.matrix.specs.Words.{Letter, S, Q, P, letter, value}
use Rattle.matrix.specs.Euclid.{word_of}
use Rattle.matrix.proofs.Matrix.{⊗-assoc, ⊗-idl, ⊗-idr, neg-⊗, ≈-left, ≈-sym, det_𝟙, det_one, det_letter, Q_Q}
use Rattle.matrix.proofs.Existence.{existence}
use Rattle.numbering.specs.Find.{find}
use Rattle.numbering.specs.Order.{order_of, up_to, Maps}
use Rattle.numbering.specs.Table.{image_at, renamed}
use Rattle.numbering.proofs.Find.{once_by}
use Rattle.numbering.proofs.Order.{order_ext}
use Rattle.numbering.proofs.Table.{renamed_length, renamed_at}
use Rattle.numbering.proofs.Numbered.{up_to_length, up_to_at}
use Rattle.right_cosets.specs.Condition.{Unit, Condition, Decides}
use Rattle.right_cosets.specs.Transversal.{Everything, Transversal}
use Rattle.right_cosets.specs.Cosets.{CosetsOf}
use Rattle.right_cosets.proofs.Transversal.{flip, chain}
use Rattle.right_cosets.proofs.Place.{place, by_s, by_r, adj_𝟙, det_R, Q_is, cancel_right, place_only}
use Rattle.right_cosets.proofs.Points.{order, table_s, table_r, cosets_are}

-- n units, no two in one right coset, the first in that of the identity, whose products by S and R are in the right cosets that the tables s and
-- r say, and numbered by the rule
pub record Walked (C : Mat → Type 0) (n : ℕ) (rep : ℕ → Mat) (s r : List ℕ) : Type 0 where
  pub size_S : length s ≡ n
  pub size_R : length r ≡ n
  pub low_S : (j : ℕ) → j < n → image_at s j < n
  pub low_R : (j : ℕ) → j < n → image_at r j < n
  pub some : 0 < n
  pub unit : (j : ℕ) → j < n → Unit (rep j)
  pub first : C (rep 0)
  pub apart : (j k : ℕ) → j < n → k < n → C (rep j ⊗ adj (rep k)) → j ≡ k
  pub by_S : (j : ℕ) → j < n → C (rep j ⊗ mat_s ⊗ adj (rep (image_at s j)))
  pub by_R : (j : ℕ) → j < n → C (rep j ⊗ mat_r ⊗ adj (rep (image_at r j)))
  pub numbered : order_of (image_at s) (image_at r) 0 n ≡ up_to n

pub up_to_find : (n x : ℕ) → x < n → find (up_to n) x ≡ x
up_to_find n x h =
    let l = up_to_length n in
    let o = once_by (up_to n) (λ j k a b e. sym (up_to_at n j (omega arith)) ∙ e ∙ up_to_at n k (omega arith)) in
    rw (up_to_at n x h) at (o.place x (omega arith))

module _ {C : Mat → Type 0} (c : Condition C) {n : ℕ} {rep : ℕ → Mat} {s r : List ℕ} (w : Walked C n rep s r) where
  -- m is in the coset of rep at
  record Hits (m : Mat) : Type 0 where
    spot : ℕ
    low : spot < n
    hit : C (m ⊗ adj (rep spot))

  -- C (m rep⁻¹) and C (rep g k⁻¹) give C (m g k⁻¹)
  more : (m g x k : Mat) → Unit g → Unit x → C (m ⊗ adj x) → C (x ⊗ g ⊗ adj k) → C (m ⊗ g ⊗ adj k)
  more m g x k u v h l = chain c (m ⊗ g) (x ⊗ g) k (det_one x g v u) (rw (cancel_right m x g u) h) l

  hits_S : (m : Mat) → Hits m → Hits (m ⊗ mat_s)
  hits_S m h = let j = h.spot in record {
    spot = image_at s j;
    low = w.low_S j h.low;
    hit = more m mat_s (rep j) (rep (image_at s j)) (det_letter S) (w.unit j h.low) h.hit (w.by_S j h.low);
  }

  hits_R : (m : Mat) → Hits m → Hits (m ⊗ mat_r)
  hits_R m h = let j = h.spot in record {
    spot = image_at r j;
    low = w.low_R j h.low;
    hit = more m mat_r (rep j) (rep (image_at r j)) det_R (w.unit j h.low) h.hit (w.by_R j h.low);
  }

  hits-≈ : (l m : Mat) → l ≈ m → Hits m → Hits l
  hits-≈ l m (inl e) h = rw e h
  hits-≈ l m (inr e) h = rw e (record { spot = h.spot; low = h.low; hit = rw (neg-⊗ m (adj (rep h.spot))) (c.sign (m ⊗ adj (rep h.spot)) h.hit) })

  hits_Q : (m : Mat) → Hits m → Hits (m ⊗ mat_q)
  hits_Q m h =
      let e : m ⊗ mat_s ⊗ mat_r ⊗ mat_r ⊗ mat_s ≡ m ⊗ (mat_s ⊗ mat_r ⊗ mat_r ⊗ mat_s) = simp ⊗-assoc in
      hits-≈ (m ⊗ mat_q) (m ⊗ mat_s ⊗ mat_r ⊗ mat_r ⊗ mat_s) (≈-sym (rw e (≈-left m (inr Q_is)))) (hits_S _ (hits_R _ (hits_R _ (hits_S m h))))

  hits_letter : (y : Letter) (m : Mat) → Hits m → Hits (m ⊗ letter y)
  hits_letter S m h = hits_S m h
  hits_letter Q m h = hits_Q m h
  hits_letter P m h = let e : m ⊗ mat_q ⊗ mat_q ≡ m ⊗ mat_p = ⊗-assoc m mat_q mat_q ∙ ap (λ (x : Mat). m ⊗ x) Q_Q in rw e at (hits_Q (m ⊗ mat_q) (hits_Q m h))

  hits_word : (l : List Letter) (m : Mat) → Hits m → Hits (m ⊗ value l)
  hits_word [] m h = rw (⊗-idr m) h
  hits_word (y ∷ l) m h = rw (⊗-assoc m (letter y) (value l)) at (hits_word l (m ⊗ letter y) (hits_letter y m h))

  first_hit : C (𝟙 ⊗ adj (rep 0))
  first_hit = flip c (rep 0) 𝟙 (rw (adj_𝟙 (rep 0)) w.first)

  hits_one : Hits 𝟙
  hits_one = record { spot = 0; low = w.some; hit = first_hit }

  hits : (m : Mat) → Unit m → Hits m
  hits m u = hits-≈ m (value (word_of m)) (≈-sym (existence m u).1) (rw (⊗-idl (value (word_of m))) at (hits_word (word_of m) 𝟙 hits_one))

  pub walked_transversal : Transversal Everything C n rep
  walked_transversal = record {
    member = λ j h. record { unit = w.unit j h; meets = tt };
    place = λ m h.
        let p = hits m h.unit in
        record {
          at = p.spot;
          low = p.low;
          hit = p.hit;
          only = λ j l k. w.apart j p.spot l p.low (chain c (rep j) m (rep p.spot) h.unit (flip c m (rep j) k) p.hit);
        };
  }

  module _ {meets : Mat → Bool} (decides : Decides C meets) where
    abbrev σ : ℕ → ℕ
    σ = by_s meets n rep

    abbrev ρ : ℕ → ℕ
    ρ = by_r meets n rep

    step_S : (j : ℕ) → j < n → image_at s j ≡ σ j
    step_S j h = place_only c decides walked_transversal (rep j ⊗ mat_s) (det_one (rep j) mat_s (w.unit j h) (det_letter S)) (image_at s j) (w.low_S j h)
        (w.by_S j h)

    step_R : (j : ℕ) → j < n → image_at r j ≡ ρ j
    step_R j h = place_only c decides walked_transversal (rep j ⊗ mat_r) (det_one (rep j) mat_r (w.unit j h) det_R) (image_at r j) (w.low_R j h) (w.by_R j h)

    start_is : 0 ≡ place meets n rep 𝟙
    start_is = place_only c decides walked_transversal 𝟙 det_𝟙 0 w.some first_hit

    maps : Maps σ ρ 0 n
    maps = record { start_low = w.some; σ_low = λ x h. rw (← step_S x h) (w.low_S x h); ρ_low = λ x h. rw (← step_R x h) (w.low_R x h) }

    order_is : order meets n rep ≡ up_to n
    order_is = rw (← start_is) (sym (order_ext σ ρ (image_at s) (image_at r) 0 n maps step_S step_R) ∙ w.numbered)

    table_is : (t : List ℕ) (f : ℕ → ℕ) → length t ≡ n → ((j : ℕ) → j < n → image_at t j ≡ f j) → ((j : ℕ) → j < n → image_at t j < n) → renamed (up_to n) f ≡ t
    table_is t f size step low =
        let l = up_to_length n in
        ext_get_or 0 (renamed (up_to n) f) t (renamed_length (up_to n) f ∙ l ∙ sym size) (λ j h.
        let k : j < n = omega (arith, renamed_length (up_to n) f) in
        let e = low j k in
        renamed_at (up_to n) f j (omega arith) ∙ ap (λ (x : ℕ). find (up_to n) (f x)) (up_to_at n j k) ∙ ap (find (up_to n)) (sym (step j k))
        ∙ up_to_find n (image_at t j) e)

    pub walked_cosets : CosetsOf C n s r
    unfolding table_s table_r
    walked_cosets = rw (
      order_is,
      table_is s σ w.size_S step_S w.low_S,
      table_is r ρ w.size_R step_R w.low_R,
    ) at (cosets_are c decides walked_transversal)
