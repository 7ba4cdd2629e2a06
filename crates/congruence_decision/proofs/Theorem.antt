-- Proofs of the theorems of specs/Theorems.antt. Assumes nothing.
use mathlib.Core.Path.{◌≡◌, sym, ◌∙◌, ap, subst}
use mathlib.Core.Logic.{inl, inr}
use mathlib.Core.Bool.{true}
use mathlib.Core.List.{List, [], ◌∷◌}
use Prim.Native.Nat.{ℕ, suc, ◌*◌, ◌^◌}
use native.Mathlib.Omega.{arith}
use lib.IntN.{ℤ, pos, negsuc, ◌-ℤ◌, ◌*ℤ◌}
use Rattle.matrix.specs.Matrix.{Mat}
use Rattle.matrix.specs.Action as action
use Rattle.matrix.proofs.Ring.{con, var, ◌⊕◌, ◌⊙◌, ⊖◌, ring}
use Rattle.permutations.specs.Pair.{image}
use Rattle.right_cosets.specs.Cosets.{CosetsOf}
use Rattle.congruence.specs.Congruence.{Multiple}
use Rattle.congruence.specs.Index.{is_prime}
use Rattle.congruence.proofs.Multiple.{residue}
use Rattle.congruence.proofs.Factor.{mult_dvd}
use Rattle.wohlfahrt.specs.IsCongruence.{IsCongruence, table_level}
use Rattle.wohlfahrt.proofs.Combine.{combine}
use Rattle.wohlfahrt.proofs.Powers.{upper, lower}
use Rattle.wohlfahrt.proofs.Acting.{Trivially}
use Rattle.wohlfahrt.proofs.Inverting.{mult_mult, mult_left}
use Rattle.wohlfahrt.proofs.Wohlfahrt.{wohlfahrt_acts}
use Rattle.wohlfahrt.proofs.Points.{point_q, acting, everywhere, inside_of, contains_of, level_some, wide_level}
use Rattle.congruence_decision.specs.Units.{Inverses, UnitPair}
use Rattle.congruence_decision.specs.Equations.{BaseEquations, EveryUnit, UnitsPass}
use Rattle.congruence_decision.specs.Maps.{PointMaps, PrimeMaps, Divides}
use Rattle.congruence_decision.specs.Theorems.{PrimePasses, Necessary, Sufficient}
use Rattle.congruence_decision.proofs.Primes.{prime_least, power_part}
use Rattle.congruence_decision.proofs.Words.{represents_as}
use Rattle.congruence_decision.proofs.Relations.{diagonal_by, inverses_flip}
use Rattle.congruence_decision.proofs.Local.{local}
use Rattle.congruence_decision.proofs.Braid.{Braided, HP, holds_as}
use Rattle.congruence_decision.proofs.Generator.{AllUnits, all_units}
use Rattle.congruence_decision.proofs.Twice.{relations}
use Rattle.congruence_decision.proofs.Part.{Part, part_q, part_x, part_y}
use Rattle.congruence_decision.proofs.Converse.{join, braid_of, fourth_of, unit_of, product_of, cross_of}
use Rattle.congruence_decision.proofs.Whole.{PartHolds, crosses_by, whole}
use Rattle.congruence_decision.proofs.Shares.{part_of, one_power, part_clear, level_part, prime_met}
use Rattle.congruence_decision.proofs.Maps.{PX, PY, big, unit_some, braid_up, fourth_up, crosses_up, unit_up, product_up, base_down, unit_down}
use Rattle.congruence_decision.proofs.Maps.{product_down}

module _ {C : Mat → Type 0} {n : ℕ} {s r : List ℕ} (c : CosetsOf C n s r) {point S B : ℕ → ℕ} (P : PointMaps n s r point S B) where
  abbrev N : ℕ
  N = table_level s r

  -- ---- yes

  module _ (b : Part N) {x : ℕ → ℕ → ℕ} (M : PrimeMaps n s r point b.p (part_q b) x) where
    abbrev X : ℤ → ℕ → ℕ
    X z j = part_x (image s) (point_q s r) b.e z j

    abbrev Y : ℤ → ℕ → ℕ
    Y z j = part_y (image s) (point_q s r) b.e z j

    abbrev Q : ℕ
    Q = part_q b

    -- a unit as a pair of numbers from 1 to Q
    record Reduced (u v : ℤ) : Type 0 where
      g : ℕ
      h : ℕ
      pair : UnitPair (part_q b) g h
      u_is : Multiple (part_q b) (u -ℤ pos g)
      v_is : Multiple (part_q b) (v -ℤ pos h)

    reduced : (u v : ℤ) → Inverses Q u v → Reduced u v
    reduced u v i =
        let Q-big = big c P b M in
        let a = residue Q (omega arith) u in
        let d = residue Q (omega arith) v in
        let g = a.is in
        let h = d.is in
        let j : Inverses Q (pos g) (pos h) = combine (u ∷ v ∷ pos g ∷ pos h ∷ []) (var 2 ⊙ var 3 ⊕ con (negsuc 0))
        (⊖ var 3 ⊙ (var 0 ⊕ ⊖ var 2) ⊕ (⊖ var 0 ⊙ (var 1 ⊕ ⊖ var 3) ⊕ con (pos 1) ⊙ (var 0 ⊙ var 1 ⊕ con (negsuc 0)))) tt (a.differs, (d.differs, i)) in
        record {
          g = g;
          h = h;
          pair = record {
            g_some = unit_some Q g (pos h) Q-big j;
            g_low = omega (arith, a.low);
            h_some = unit_some Q h (pos g) Q-big (inverses_flip (pos g) (pos h) j);
            h_low = omega (arith, d.low);
            inverses = j;
          };
          u_is = a.differs;
          v_is = d.differs;
        }

    braided : BaseEquations n S x B → Braided Q X Y
    braided k = let Q-big = big c P b M in record { some = omega arith; PX = PX c P b M; PY = PY c P b M; braid = braid_up c P b M k }

    units : BaseEquations n S x B → UnitsPass n S x Q → AllUnits Q X Y
    units k (inl o) = all_units (braided k) (unit_up c P b M o.g o.h o.generating.pair o.equations) (fourth_up c P b M k) o.generating.spans
    units k (inr e) = record {
      each = λ u v i. let d = reduced u v i in
          holds_as (braided k) (pos d.g) (pos d.h) u v d.u_is d.v_is
          (unit_up c P b M d.g d.h d.pair (e.equations d.g d.h d.pair));
      products = λ u v u' v' i i' j. two (reduced u v i) (reduced u' v' i') j;
    }
      where
        two : {u v u' v' : ℤ} (d : Reduced u v) (d' : Reduced u' v') (j : ℕ)
            → diagonal_by X Y u' v' (diagonal_by X Y u v j) ≡ diagonal_by X Y (u *ℤ u') (v *ℤ v') j
        two {u} {v} {u'} {v'} d d' j =
            let g = pos d.g in
            let h = pos d.h in
            let g' = pos d'.g in
            let h' = pos d'.h in
            HP (braided k) u' g' v' h' d'.u_is d'.v_is (diagonal_by X Y u v j)
            ∙ ap (diagonal_by X Y g' h') (HP (braided k) u g v h d.u_is d.v_is j)
            ∙ product_up c P b M d.g d.h d'.g d'.h d.pair d'.pair (e.products d.g d.h d'.g d'.h d.pair d'.pair) j
            ∙ HP (braided k) (g *ℤ g') (u *ℤ u') (h *ℤ h') (v *ℤ v') (times_differ u g u' g' d.u_is d'.u_is)
            (times_differ v h v' h' d.v_is d'.v_is) j
          where
            times_differ : (u g u' g' : ℤ) → Multiple (part_q b) (u -ℤ g) → Multiple (part_q b) (u' -ℤ g') → Multiple (part_q b) (g *ℤ g' -ℤ u *ℤ u')
            times_differ u g u' g' m m' = combine (u ∷ g ∷ u' ∷ g' ∷ []) (var 1 ⊙ var 3 ⊕ ⊖ (var 0 ⊙ var 2))
                (⊖ var 3 ⊙ (var 0 ⊕ ⊖ var 1) ⊕ ⊖ var 0 ⊙ (var 2 ⊕ ⊖ var 3)) tt (m, m')

    part_holds : BaseEquations n S x B → UnitsPass n S x Q → PartHolds (acting c) N b.e Q
    part_holds k o =
        let rel = relations b.p b.k (braided k) (units k o) in
        let e = b.e in
        let one : e ≡ e *ℤ pos 1 = ring (e ∷ []) (var 0) (var 0 ⊙ con (pos 1)) tt in
        record {
          represents = represents_as Q (λ j. ap (λ (z : ℤ). action.at (image s) (point_q s r) j (upper z)) one)
              (λ j. ap (λ (z : ℤ). action.at (image s) (point_q s r) j (lower z)) one)
              (local b.p b.k b.prime X Y (PX c P b M) (PY c P b M) rel);
          crosses = crosses_by (acting c) N (wide_level c) e
              (λ j.
              ap (λ (z : ℤ). part_y (image s) (point_q s r) (pos 1 -ℤ e) (pos 1) (action.at (image s) (point_q s r) j (upper z))) one
              ∙ sym (crosses_up c P b M k j)
              ∙ sym (ap (λ (z : ℤ). action.at (image s) (point_q s r) (part_y (image s) (point_q s r) (pos 1 -ℤ e) (pos 1) j) (upper z)) one))
              (level_some c);
        }

  by_prime : ((p : ℕ) → is_prime p ≡ true → Divides n s r point p → PrimePasses n s r point S B p) → (b : Part N)
      → PartHolds (acting c) N b.e (part_q b)
  by_prime passes b =
      let p = b.p in
      let prime = prime_least p b.prime in
      let q-N : Multiple (part_q b) (pos N) = rw b.whole at (mult_left (part_q b) b.rest) in
      let used = prime_met c P.renames p b.prime (mult_dvd p N (mult_mult (power_part p b.k) q-N)) in
      let t = passes p b.prime used in
      let m = t.maps in
      let met : Divides n s r point (p ^ suc m.k) = subst (λ (z : ℕ). Divides n s r point z) m.power m.met in
      let o = level_part c P.renames p b.prime m.k met m.most in
      let same : t.q ≡ part_q b = m.power ∙ one_power p prime N (suc m.k) (suc b.k) o.rest b.rest o.whole o.clear b.whole
      (part_clear b) in
      part_holds b {x = t.X} (subst (λ (z : ℕ). PrimeMaps n s r point p z t.X) same m) t.base (subst (λ (z : ℕ). UnitsPass n S t.X z) same t.units)

  pub yes : ((p : ℕ) → is_prime p ≡ true → Divides n s r point p → PrimePasses n s r point S B p) → IsCongruence C
  yes passes =
      let t = whole (acting c) N (wide_level c) (by_prime passes) (level_some c) in
      record { modulus = N; some = level_some c; contains = contains_of c N (λ m u g. t m u g 0) }

  -- ---- and back

  acts_trivially : IsCongruence C → Trivially (image s) (point_q s r) N
  acts_trivially i = wohlfahrt_acts (acting c) 0 (everywhere c) N (wide_level c) i.modulus i.some (inside_of c i)

  part_equations : (b : Part N) {x : ℕ → ℕ → ℕ} → PrimeMaps n s r point b.p (part_q b) x → Trivially (image s) (point_q s r) N
      → BaseEquations n S x B × EveryUnit n S x (part_q b)
  part_equations b {x} M t =
      let e = b.e in
      let t' : Trivially (image s) (point_q s r) (part_q b * b.rest) = rw b.whole t in
      let apart : Multiple N (e *ℤ pos 1 *ℤ ((pos 1 -ℤ e) *ℤ pos 1)) = rw b.whole at (join (part_q b) b.rest e b.one b.zero
      {z = e *ℤ pos 1 *ℤ ((pos 1 -ℤ e) *ℤ pos 1)}
      (combine (e ∷ []) (var 0 ⊙ con (pos 1) ⊙ ((con (pos 1) ⊕ ⊖ var 0) ⊙ con (pos 1))) (⊖ var 0 ⊙ (var 0 ⊕ con (negsuc 0))) tt b.one)
      (combine (e ∷ []) (var 0 ⊙ con (pos 1) ⊙ ((con (pos 1) ⊕ ⊖ var 0) ⊙ con (pos 1))) ((con (pos 1) ⊕ ⊖ var 0) ⊙ var 0) tt b.zero)) in
      let unit = unit_of (acting c) (part_q b) b.rest e b.one b.zero t' in (
        base_down c P b M (braid_of (acting c) (part_q b) b.rest e b.one b.zero t') (fourth_of (acting c) (part_q b) b.rest e b.one b.zero t')
            (λ j. sym (cross_of (acting c) N t (e *ℤ pos 1) ((pos 1 -ℤ e) *ℤ pos 1) apart j)),
        record {
          equations = λ g h u. unit_down c P b M g h u (unit (pos g) (pos h) u.inverses);
          products = λ g h g' h' u v. product_down c P b M g h g' h' u v
              (product_of (acting c) (part_q b) b.rest e b.one b.zero t' (pos g) (pos h) (pos g') (pos h') u.inverses v.inverses);
        },
      )

  pub back : IsCongruence C → (p q : ℕ) (X : ℕ → ℕ → ℕ) → PrimeMaps n s r point p q X → BaseEquations n S X B × EveryUnit n S X q
  unfolding part_of
  back i p q X M =
      let met : Divides n s r point (p ^ suc M.k) = subst (λ (z : ℕ). Divides n s r point z) M.power M.met in
      let b = part_of p M.k N M.prime (level_part c P.renames p M.prime M.k met M.most) in
      let both = part_equations b {x = X} (subst (λ (z : ℕ). PrimeMaps n s r point p z X) M.power M) (acts_trivially i) in
      (both.0, subst (λ (z : ℕ). EveryUnit n S X z) (sym M.power) both.1)

pub sufficient : Sufficient
sufficient C n s r c point S B P passes = yes c P passes

pub necessary : Necessary
necessary C n s r c point S B P i p q X M = back c P i p q X M
