-- The Riemann–Hurwitz formula for two permutations of points that they connect: `riemann_hurwitz`.
-- Why: labels that both permutations keep are equal at all points, since these are reached from one; so there is one label, and the balance of `Orbits`
-- is the formula.
-- Assumes nothing.
use mathlib.Core.Path.{◌≡◌, refl, sym, ap, ◌∙◌}
use mathlib.Core.List.{List}
use Prim.Native.Nat.{ℕ, ◌<◌}
use native.Mathlib.Omega.{arith}
use native.Mathlib.Decide.{ℕ_discrete}
use lib.ListN.{length}
use borrow.Author.Tests.{eq-eqb, ne_eqb}
use Rattle.basics.proofs.Count.{Clear, count_none, without, without_at, without_other, count_without}
use Rattle.numbering.specs.Order.{Reached, here, by_σ, by_ρ}
use Rattle.numbering.specs.Table.{image_at, ◌then◌, ◌then_table◌, Permutes}
use Rattle.numbering.proofs.Table.{then_length, then_at}
use Rattle.figures.specs.RiemannHurwitz.{cycle_number, Transitive, RiemannHurwitz}
use Rattle.figures.proofs.Exchange.{PermutesBelow}
use Rattle.figures.proofs.Cycles.{cycle_count, cycle_ext}
use Rattle.figures.proofs.Orbits.{own_label, labels, Orbits, orbits}
use Rattle.figures.proofs.TableCycles.{table_permutes, table_cycles}

module _ {s r : List ℕ} (a : Transitive s r) where
  abbrev n : ℕ
  n = length s

  abbrev u : List ℕ
  u = s then_table r

  permutes_s : PermutesBelow n (image_at s)
  permutes_s = table_permutes a.permutes_S

  permutes_r : PermutesBelow n (image_at r)
  permutes_r = rw (← a.as_many) (table_permutes a.permutes_R)

  o : Orbits n (image_at s) (image_at r)
  o = orbits permutes_s permutes_r

  -- ---- one label

  one_label : {x : ℕ} → Reached (image_at s) (image_at r) 0 x → (x < n) × (o.label x ≡ o.label 0)
  one_label here = (a.some, refl)
  one_label (by_σ {x} w) = let k = one_label w in (permutes_s.low x k.0, o.kept_a x k.0 ∙ k.1)
  one_label (by_ρ {x} w) = let k = one_label w in (permutes_r.low x k.0, o.kept_b x k.0 ∙ k.1)

  label_count : labels n o.label ≡ 1
  label_count =
      let l = o.label in
      let q = l 0 in
      let others : Clear (without q (own_label l)) n = record {
        none = λ x h. elim (ℕ_discrete x q) [
          | yes e ↦ ap (without q (own_label l)) e ∙ without_at q (own_label l)
          | no e ↦ without_other q (own_label l) x e ∙ ne_eqb (l x) x (λ d. e (sym d ∙ (one_label (a.reached x h)).1))
        ];
      } in
      omega (
        arith,
        count_without q (own_label l) n (o.labelling.low 0 a.some) (eq-eqb (l q) q (o.labelling.own 0 a.some)),
        count_none (without q (own_label l)) n others,
      )

  -- ---- the product

  product_permutes : Permutes u
  product_permutes = record {
    low = λ x h.
        let k : x < n = rw (then_length s r) at h in
        rw (then_length s r, then_at s r x k) (permutes_r.low (image_at s x) (permutes_s.low x k));
    one = λ x y h k e.
        let i : x < n = rw (then_length s r) at h in
        let j : y < n = rw (then_length s r) at k in
        permutes_s.one x y i j (permutes_r.one (image_at s x) (image_at s y) (permutes_s.low x i) (permutes_s.low y j)
        (sym (then_at s r x i) ∙ e ∙ then_at s r y j));
  }

  product_cycles : cycle_count n (image_at s then image_at r) ≡ cycle_number u
  product_cycles =
      cycle_ext n (image_at s then image_at r) (image_at u) (λ x h. sym (then_at s r x h))
      ∙ ap (λ (k : ℕ). cycle_count k (image_at u)) (sym (then_length s r)) ∙ table_cycles product_permutes

  r_cycles : cycle_count n (image_at r) ≡ cycle_number r
  r_cycles = ap (λ (k : ℕ). cycle_count k (image_at r)) (sym a.as_many) ∙ table_cycles a.permutes_R

  pub riemann_hurwitz : RiemannHurwitz s r
  riemann_hurwitz = record {
    genus = o.genus;
    formula = omega (arith, o.balance, label_count, table_cycles a.permutes_S, r_cycles, product_cycles);
  }
