-- What the number of the call says (`intersection_says`): what isn't refused is the number of points of the intersection's tables, and 24 is the number of no
-- other refusal.
-- Assumes nothing.
use Rattle.std.specs.Prelude.{Ok}
use mathlib.Core.Path.{◌≡◌, refl}
use mathlib.Core.Bool.{Bool, true, false}
use mathlib.Core.List.{List, [], ◌∷◌}
use Prim.Native.Nat.{ℕ, ◌<◌}
use native.Mathlib.Omega.{arith}
use borrow.Author.Tests.{ltb-true}
use lib.Dec.{ltb}
use lib.ListN.{length}
use lib.IntN.{ℤ}
use Rattle.call.specs.Space.{work_length}
use Rattle.call.specs.Refusal.{◌or_else◌, answer_number, answer_place, Checked}
use Rattle.call.specs.declared.refusal.Refusal.TheVariants.{LargeIntersection}
use Rattle.call.specs.Call.{Lent, Asks, length_check, if_accepted, number_of, place_of}
use Rattle.call.proofs.Laws.{above_among, above_room, made_says, past, past_room}
use Rattle.symbol.specs.Check.{refuse, symbol_check}
use Rattle.symbol.proofs.Accepted.{accepted, among_refuse, check_among}
use Rattle.pairing.proofs.Both.{two_symbols_lem, two_numbered}
use Rattle.containment.specs.TwoSymbols.{common_cosets, common_s, common_r, common_t}
use Rattle.containment.proofs.TwoSymbols.{common_subgroup}
use Rattle.intersections.specs.Answer.{most, too_many, Intersected, TooManyPoints, intersection_call}

-- 24 comes from the number of points
many : (n : ℕ) (d : Checked) → (answer_number d ≡ 24 → ⊥) → answer_number (too_many n or_else d) ≡ 24 → most < n
many n d other e = ltb-true most n (go (ltb most n) e)
  where
    go : (b : Bool) → answer_number (refuse b LargeIntersection or_else d) ≡ 24 → b ≡ true
    go true z = refl
    go false z = absurd (other z)

module _ (v : ℕ) (t : List ℤ) (v' : ℕ) (t' : List ℤ) (work s r u : ℕ) where
  abbrev N : ℕ
  N = length (common_cosets v t v' t')

  -- the checks behind the symbols', where the spaces have these lengths
  abbrev third : Checked
  third = length_check (length (common_t v t v' t')) u or_else (Ok tt)

  abbrev second : Checked
  second = length_check (length (common_r v t v' t')) r or_else third

  abbrev spaces : Checked
  spaces = length_check (length (common_s v t v' t')) s or_else second

  abbrev behind : Checked
  behind = length_check work_length work or_else too_many N or_else spaces

  abbrev all : Checked
  all = symbol_check v t or_else symbol_check v' t' or_else behind

  spaces_11 : answer_number spaces ≡ 24 → ⊥
  spaces_11 e =
      let z1 = past_room (length (common_s v t v' t')) s 24 second (omega arith) e in
      let z2 = past_room (length (common_r v t v' t')) r 24 third (omega arith) z1 in
      let z3 = past_room (length (common_t v t v' t')) u 24 (Ok tt) (omega arith) z2 in
      omega (arith, z3)

  pub large_says : answer_number all ≡ 24 → TooManyPoints v t v' t'
  large_says e =
      let p = past 1 7 24 (symbol_check v t) (symbol_check v' t' or_else behind) (check_among v t) (omega arith) e in
      let q = past 1 7 24 (symbol_check v' t') behind (check_among v' t') (omega arith) p.1 in
      let ok = (accepted v t).0 p.0 in
      let ok' = (accepted v' t').0 q.0 in
      record {
        one = ok;
        other = ok';
        more = many N spaces spaces_11 (past_room work_length work 24 (too_many N or_else spaces) (omega arith) q.1);
        group = common_subgroup v t v' t' ok ok';
      }

  pub made_tables : answer_number all ≡ 0 → Intersected v t v' t' (if_accepted all N (answer_place all))
  made_tables =
      let steps = Asks (length_check work_length work) ∷ Asks (too_many N) ∷ Asks (length_check (length (common_s v t v' t')) s)
      ∷ Asks (length_check (length (common_r v t v' t')) r) ∷ Asks (length_check (length (common_t v t v' t')) u) ∷ [] in
      made_says (record {
        steps = Asks (symbol_check v t) ∷ Asks (symbol_check v' t') ∷ steps;
        count = N;
        Says = λ number place. number ≡ 0
            → Intersected v t v' t' place;
      })
      (Intersected v t v' t')
      (two_numbered v t v' t' steps (
        above_room work_length work,
        (
          above_among 24 24 (too_many N) (omega arith) (among_refuse 24 24 (ltb most N) LargeIntersection (omega arith) (omega arith)),
          (above_room (length (common_s v t v' t')) s, (above_room (length (common_r v t v' t')) r, (above_room (length (common_t v t v' t')) u, tt))),
        ),
      ))
      (λ e. (let p = two_symbols_lem v t v' t' behind e in record { one = p.0; other = p.1; points = refl; group = common_subgroup v t v' t' p.0 p.1 }))

pub intersection_says : (v : ℕ) (t : List ℤ) (v' : ℕ) (t' : List ℤ) (w s r u : Lent (List ℕ))
    → let p = intersection_call v t v' t' w s r u in p.Says (number_of p) (place_of p)
intersection_says v t v' t' w s r u = record {
  made = made_tables v t v' t' (length w.entry.now) (length s.entry.now) (length r.entry.now) (length u.entry.now);
  large = large_says v t v' t' (length w.entry.now) (length s.entry.now) (length r.entry.now) (length u.entry.now);
}
