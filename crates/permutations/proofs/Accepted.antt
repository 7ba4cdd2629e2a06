-- THE CHECKS 12 TO 15 ACCEPT EXACTLY THE PASSPORTS.
--
-- In order: the checks one by one (`passed_all`, `all_passed`); entries of a table (`entry_low`); what passing says
-- (`passport`) and why a passport passes (`passing`); the theorem (`accepted`, `verdict`); the two tables as maps (`permuting_of`).
-- Assumes nothing.
use Rattle.std.specs.Prelude.{Ok}
use mathlib.Core.Path.{◌≡◌, refl, sym, ◌∙◌, ap}
use mathlib.Core.Logic.{◌↔◌}
use mathlib.Core.Bool.{Bool, true, false, not, ◌&&◌, ◌||◌}
use mathlib.Core.List.{List}
use Prim.Native.Nat.{ℕ, ◌≤◌, ◌<◌}
use native.Mathlib.Omega.{arith}
use native.Mathlib.Decide.{dec_lt}
use lib.Dec.{leb, ltb, eqb}
use lib.ListN.{length, get_or}
use borrow.Author.Tests.{leb-true, eqb-true, ltb-true, lt-ltb, le-ltb, le-leb, eq-eqb, ne_eqb, not-false}
use Rattle.call.specs.Refusal.{◌or_else◌, Checked}
use Rattle.call.specs.declared.refusal.Refusal.TheVariants.{PointCount, TableEntry, WrongOrder, Unreached}
use Rattle.call.proofs.Answers.{both_pass, pass_both}
use Rattle.basics.specs.Count.{first}
use Rattle.basics.proofs.Choice.{and_left, and_right}
use Rattle.basics.proofs.Count.{Clear, first_clear}
use Rattle.numbering.specs.Find.{find, is_in, ◌∈◌}
use Rattle.numbering.specs.Order.{order_of}
use Rattle.numbering.proofs.Order.{numbering}
use Rattle.permutations.specs.Pair.{image, Permuting}
use Rattle.permutations.specs.Check.{check12, earlier, bad_entry, check13, twice_moved, thrice_moved, check14, not_reached, check15, pair_check, Passport}
use Rattle.permutations.specs.Check.{PairVerdict}
use Rattle.permutations.proofs.Images.{image_in, image_out}
use Rattle.symbol.proofs.Accepted.{passes, pass, passes_at, pass_at}

-- ---- the checks one by one

pub record Passed (s r : List ℕ) : Type 0 where
  pub twelve : (leb 1 (length s) && leb (length s) 3066 && eqb (length r) (length s)) ≡ true
  pub entries_S : Clear (bad_entry s) (length s)
  pub entries_R : Clear (bad_entry r) (length r)
  pub twice : Clear (twice_moved s) (length s)
  pub thrice : Clear (thrice_moved r) (length r)
  pub all : Clear (not_reached s r) (length s)

pub passed_all : (s r : List ℕ) → pair_check s r ≡ Ok tt → Passed s r
passed_all s r e =
    let a = both_pass (check12 s r) (check13 s or_else check13 r or_else check14 twice_moved s or_else check14 thrice_moved r or_else check15 s r) e in
    let b = both_pass (check13 s) (check13 r or_else check14 twice_moved s or_else check14 thrice_moved r or_else check15 s r) a.1 in
    let c = both_pass (check13 r) (check14 twice_moved s or_else check14 thrice_moved r or_else check15 s r) b.1 in
    let d = both_pass (check14 twice_moved s) (check14 thrice_moved r or_else check15 s r) c.1 in
    let f = both_pass (check14 thrice_moved r) (check15 s r) d.1 in
    record {
      twelve = not-false (leb 1 (length s) && leb (length s) 3066 && eqb (length r) (length s))
          (passes (not (leb 1 (length s) && leb (length s) 3066 && eqb (length r) (length s))) PointCount a.0);
      entries_S = passes_at (bad_entry s) (length s) TableEntry b.0;
      entries_R = passes_at (bad_entry r) (length r) TableEntry c.0;
      twice = passes_at (twice_moved s) (length s) WrongOrder d.0;
      thrice = passes_at (thrice_moved r) (length r) WrongOrder f.0;
      all = passes_at (not_reached s r) (length s) Unreached f.1;
    }

pub all_passed : (s r : List ℕ) → Passed s r → pair_check s r ≡ Ok tt
all_passed s r p =
    pass_both (check12 s r) (check13 s or_else check13 r or_else check14 twice_moved s or_else check14 thrice_moved r or_else check15 s r)
    (pass (not (leb 1 (length s) && leb (length s) 3066 && eqb (length r) (length s))) PointCount (ap not p.twelve))
    (pass_both (check13 s) (check13 r or_else check14 twice_moved s or_else check14 thrice_moved r or_else check15 s r)
    (pass_at (bad_entry s) (length s) TableEntry p.entries_S)
    (pass_both (check13 r) (check14 twice_moved s or_else check14 thrice_moved r or_else check15 s r) (pass_at (bad_entry r) (length r) TableEntry p.entries_R)
    (pass_both (check14 twice_moved s) (check14 thrice_moved r or_else check15 s r) (pass_at (twice_moved s) (length s) WrongOrder p.twice)
    (pass_both (check14 thrice_moved r) (check15 s r) (pass_at (thrice_moved r) (length r) WrongOrder p.thrice)
    (pass_at (not_reached s r) (length s) Unreached p.all)))))

-- ---- entries of a table

or_left : (a b : Bool) → (a || b) ≡ false → a ≡ false
or_left true b e = e
or_left false b e = refl

pub entry_low : (l : List ℕ) → Clear (bad_entry l) (length l) → (x : ℕ) → x < length l → image l x < length l
entry_low l c x h = rw (image_in l x 0 h)
    (ltb-true (get_or l x 0) (length l) (not-false (ltb (get_or l x 0) (length l)) (or_left (not (ltb (get_or l x 0) (length l))) (earlier l x) (c.none x h))))

-- entries that are points, no two the same
entries_clear : (l : List ℕ) → ((x : ℕ) → x < length l → image l x < length l)
    → ((x y : ℕ) → x < length l → y < length l → image l x ≡ image l y → x ≡ y) → Clear (bad_entry l) (length l)
entries_clear l low one = record {
  none = λ i h. (
      ap (λ (b : Bool). not b || earlier l i) (lt-ltb (get_or l i 0) (length l) (rw (image_in l i 0 h) at (low i h)))
      ∙ new i h);
}
  where
    other : (i j : ℕ) → i < length l → j < i → ¬ (get_or l j 0 ≡ get_or l i 0)
    other i j h k e = let z = one j i (omega arith) h (image_in l j 0 (omega arith) ∙ e ∙ sym (image_in l i 0 h)) in omega arith

    new : (i : ℕ) → i < length l → earlier l i ≡ false
    new i h =
        let c = first_clear (λ (j : ℕ). eqb (get_or l j 0) (get_or l i 0)) i (record { none = λ j k. ne_eqb (get_or l j 0) (get_or l i 0) (other i j h k) }) in
        le-ltb (first (λ (j : ℕ). eqb (get_or l j 0) (get_or l i 0)) i) i (omega arith)

-- ---- the two tables as maps of all numbers: what is no point stays

S_twice : (s : List ℕ) → ((x : ℕ) → x < length s → image s (image s x) ≡ x) → (x : ℕ) → image s (image s x) ≡ x
S_twice s t x = elim (dec_lt x (length s)) [
  | yes h ↦ t x h
  | no h ↦ (let e = image_out s x (omega arith) in ap (image s) e ∙ e)
]

R_thrice : (r : List ℕ) → ((x : ℕ) → x < length r → image r (image r (image r x)) ≡ x) → (x : ℕ) → image r (image r (image r x)) ≡ x
R_thrice r t x = elim (dec_lt x (length r)) [
  | yes h ↦ t x h
  | no h ↦ (let e = image_out r x (omega arith) in ap (λ (y : ℕ). image r (image r y)) e ∙ ap (image r) e ∙ e)
]

pub permuting_of : (s r : List ℕ) → Passport s r → Permuting (image s) (image r) (length s)
permuting_of s r p =
    let l = p.even in
    record {
      some = p.some;
      twice = S_twice s p.twice;
      thrice = R_thrice r p.thrice;
      σ_low = p.points_S;
      ρ_low = λ x h. rw l at (p.points_R x (omega arith));
    }

-- ---- what passing says, and why a passport passes

module _ (s r : List ℕ) (p : Passed s r) where
  counted : (1 ≤ length s) × (length s ≤ 3066) × (length r ≡ length s)
  counted =
      let a = and_left (leb 1 (length s) && leb (length s) 3066) (eqb (length r) (length s)) p.twelve in
      let b = and_right (leb 1 (length s) && leb (length s) 3066) (eqb (length r) (length s)) p.twelve in (
        leb-true 1 (length s) (and_left (leb 1 (length s)) (leb (length s) 3066) a),
        leb-true (length s) 3066
            (and_right (leb 1 (length s)) (leb (length s) 3066) a),
        eqb-true (length r) (length s) b,
      )

  twice : (x : ℕ) → x < length s → image s (image s x) ≡ x
  twice x h = eqb-true (image s (image s x)) x (not-false (eqb (image s (image s x)) x) (p.twice.none x h))

  thrice : (x : ℕ) → x < length r → image r (image r (image r x)) ≡ x
  thrice x h = eqb-true (image r (image r (image r x))) x (not-false (eqb (image r (image r (image r x))) x) (p.thrice.none x h))

  low_R : (x : ℕ) → x < length s → image r x < length s
  low_R x h = let l = counted.2 in rw l at (entry_low r p.entries_R x (omega arith))

  pub passport : Passport s r
  passport = record {
    some = counted.0;
    most = counted.1;
    even = counted.2;
    points_S = entry_low s p.entries_S;
    points_R = entry_low r p.entries_R;
    one_S = λ x y h k e. sym (twice x h) ∙ ap (image s) e ∙ twice y k;
    one_R = λ x y h k e. sym (thrice x h) ∙ ap (λ (z : ℕ). image r (image r z)) e ∙ thrice y k;
    twice = twice;
    thrice = thrice;
    reached = λ x h. (numbering (image s) (image r) 0 (length s) (record { start_low = counted.0; σ_low = entry_low s p.entries_S; ρ_low = low_R })).only x
        (ltb-true (find (order_of (image s) (image r) 0 (length s)) x) (length (order_of (image s) (image r) 0 (length s)))
        (not-false (is_in (order_of (image s) (image r) 0 (length s)) x) (p.all.none x h)));
  }

module _ (s r : List ℕ) (p : Passport s r) where
  counts : (leb 1 (length s) && leb (length s) 3066 && eqb (length r) (length s)) ≡ true
  counts = rw (le-leb 1 (length s) p.some, le-leb (length s) 3066 p.most, eq-eqb (length r) (length s) p.even)

  found : (x : ℕ) → x < length s → x ∈ order_of (image s) (image r) 0 (length s)
  found x h =
      let m = permuting_of s r p in
      (numbering (image s) (image r) 0 (length s) (record { start_low = m.some; σ_low = m.σ_low; ρ_low = m.ρ_low })).all x (p.reached x h)

  passing : Passed s r
  passing = record {
    twelve = counts;
    entries_S = entries_clear s p.points_S p.one_S;
    entries_R = entries_clear r p.points_R p.one_R;
    twice = record { none = λ x h. ap not (eq-eqb (image s (image s x)) x (p.twice x h)) };
    thrice = record { none = λ x h. ap not (eq-eqb (image r (image r (image r x))) x (p.thrice x h)) };
    all = record {
      none = λ x h. ap not
          (lt-ltb (find (order_of (image s) (image r) 0 (length s)) x) (length (order_of (image s) (image r) 0 (length s))) (found x h));
    };
  }

-- ---- THE CHECKS ACCEPT EXACTLY THE PASSPORTS

pub accepted : (s r : List ℕ) → (pair_check s r ≡ Ok tt) ↔ Passport s r
accepted s r = (λ e. passport s r (passed_all s r e), λ p. all_passed s r (passing s r p))

pub verdict : (s r : List ℕ) (c : Checked) → c ≡ pair_check s r → PairVerdict s r c
verdict s r c e = record { returned = e; means = (λ a. (accepted s r).0 (sym e ∙ a), λ p. e ∙ (accepted s r).1 p) }
