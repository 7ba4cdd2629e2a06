-- `try_unit`: g is tried. Assumes nothing.
use native.Mathlib.Omega.{arith}
use Rattle.congruence_decision.proofs.Primes.{prime_least}
use Rattle.numbering.proofs.Space.{within_refl, within_trans}
use Rattle.prime_units.proofs.Marks.{of_some, marking_start, good_unit}
use borrow.Author.Rules.{rules}
use Rattle.prime_units.proofs.units.try_unit.Goals as goal

pub inverse-h-requires : goal.inverse-h-requires
inverse-h-requires c = let q = c.requires in (of_some q.0, omega (arith, q.1), q.2)

pub returns-then-h-eq0 : goal.returns-then-h-eq0
returns-then-h-eq0 c = record { generating = (λ l. let no : ⊥ = omega arith in absurd no); changed_within = within_refl _ _ c.args.w.now }

pub clear_marks-requires : goal.clear_marks-requires
clear_marks-requires c = let q = c.requires in (of_some q.0, q.1, q.3)

pub mark_powers-requires : goal.mark_powers-requires
mark_powers-requires c =
    let q = c.requires in
    marking_start c.clear_marks.ensures.unmarked (of_some q.0) q.1 q.2

pub all_marked-requires : goal.all_marked-requires
all_marked-requires c =
    let q = c.requires in (
      omega (
        arith,
        (prime_least c.args.p
            q.0.prime).big,
      ),
      q.1,
      c.mark_powers.ensures.marking.long,
    )

pub returns-then-all_marked : goal.returns-then-all_marked
returns-then-all_marked c =
    let q = c.requires in record {
      generating = (λ l. good_unit q.0 q.2 c.inverse-h.ensures l
          c.mark_powers.ensures.marking
          (c.all_marked.ensures c.if-all_marked.true));
      changed_within = within_trans c.clear_marks.ensures.changed_within c.mark_powers.ensures.changed_within;
    }

pub returns : goal.returns
returns c = record {
  generating = (λ l. let no : ⊥ = omega arith in absurd no);
  changed_within = within_trans
      c.clear_marks.ensures.changed_within
      c.mark_powers.ensures.changed_within;
}
