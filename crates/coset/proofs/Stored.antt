-- One, two or three lists of n entries, each at the front of a space of its own.
--   stored_in x out out' l            x at the front of out, and then the steps l
--   both_first, both-second, both-room     two lists: the first space is too short, or the second one, or both have room
--   three_first .. three-room         the same of three lists
--   stored-as, both-as, three-as      the same steps of equal lists
--   told count c, room-told           what a call tells as its place; where a space is asked for n entries it is n, if the steps behind tell n too
-- Assumes nothing.
use Rattle.std.specs.Prelude.{Ok, Err}
use mathlib.Core.Path.{◌≡◌, refl, subst}
use mathlib.Core.Bool.{Bool, true, false}
use mathlib.Core.List.{List, [], ◌∷◌, ◌++◌}
use Prim.Native.Nat.{ℕ, ◌≤◌, ◌<◌}
use lib.Dec.{ltb}
use lib.ListN.{length, drop}
use Rattle.basics.specs.Choice.{pick}
use Rattle.call.specs.Refusal.{◌or_else◌, answer_place, Checked, Filled}
use Rattle.call.specs.declared.refusal.Refusal.TheVariants.{TooShort}
use Rattle.call.specs.Call.{Step, Asks, Gives, length_check, if_accepted}
use Rattle.call.specs.Inner.Fills.{Fills, made_if}
use Rattle.call.proofs.Laws.{Run, run_end, run_write, run_hold, short_write}

abbrev pub stored_in : (x out out' : List ℕ) → List Step → List Step
stored_in x out out' l = Asks (length_check (length x) (length out)) ∷ Gives (x ++ drop (length x) out) out out' ∷ l

-- ---- in their order

module _ (n : ℕ) (x y p q : List ℕ) (lx : length x ≡ n) (ly : length y ≡ n) where
  pub both_first : length p < n → Run (stored_in x p p (stored_in y q q [])) (Err (TooShort n))
  both_first h = short_write x p n lx (stored_in y q q []) h (refl, tt)

  pub both_second : n ≤ length p → length q < n → Run (stored_in x p p (stored_in y q q [])) (Err (TooShort n))
  both_second h k = run_hold x p n lx (stored_in y q q []) (TooShort n) h (short_write y q n ly [] k tt)

  pub both_room : {p' q' : List ℕ} → n ≤ length p → n ≤ length q → p' ≡ x ++ drop n p → q' ≡ y ++ drop n q
      → Run (stored_in x p p' (stored_in y q q' [])) (Ok tt)
  both_room {p'} {q'} h k e f = run_write x p n lx (stored_in y q q' []) p' h e (run_write y q n ly [] q' k f run_end)

module _ (n : ℕ) (x y z s r u : List ℕ) (lx : length x ≡ n) (ly : length y ≡ n) (lz : length z ≡ n) where
  abbrev three : (s' r' u' : List ℕ) → List Step
  three s' r' u' = stored_in x s s' (stored_in y r r' (stored_in z u u' []))

  pub three_first : length s < n → Run (three s r u) (Err (TooShort n))
  three_first h = short_write x s n lx (stored_in y r r (stored_in z u u [])) h (refl, (refl, tt))

  pub three_second : n ≤ length s → length r < n → Run (three s r u) (Err (TooShort n))
  three_second h k = run_hold x s n lx (stored_in y r r (stored_in z u u [])) (TooShort n) h (both_first n y z r u ly lz k)

  pub three_third : n ≤ length s → n ≤ length r → length u < n → Run (three s r u) (Err (TooShort n))
  three_third h k j = run_hold x s n lx (stored_in y r r (stored_in z u u [])) (TooShort n) h (both_second n y z r u ly lz k j)

  pub three_room : {s' r' u' : List ℕ} → n ≤ length s → n ≤ length r → n ≤ length u → s' ≡ x ++ drop n s → r' ≡ y ++ drop n r → u' ≡ z ++ drop n u
      → Run (three s' r' u') (Ok tt)
  three_room {s'} {r'} {u'} h k j e f g = run_write x s n lx (stored_in y r r' (stored_in z u u' [])) s' h e (both_room n y z r u ly lz k j f g)

-- ---- of equal lists

pub stored_as : (x x' out : List ℕ) {out' : List ℕ} {n n' : ℕ} {a : Filled} → Fills (stored_in x out out' []) (made_if n) a → x ≡ x' → n ≡ n'
    → Fills (stored_in x' out out' []) (made_if n') a
stored_as x x' out {out'} {n} {n'} {a} k e h =
    subst (λ (i : ℕ). Fills (stored_in x' out out' []) (made_if i) a) h (subst (λ (l : List ℕ). Fills (stored_in l out out' []) (made_if n) a) e k)

pub both_as : (x y x' y' p q : List ℕ) {p' q' : List ℕ} {n n' : ℕ} {a : Filled} → Fills (stored_in x p p' (stored_in y q q' [])) (made_if n) a
    → x ≡ x' → y ≡ y' → n ≡ n' → Fills (stored_in x' p p' (stored_in y' q q' [])) (made_if n') a
both_as x y x' y' p q {p'} {q'} {n} {n'} {a} k e f h =
    subst (λ (i : ℕ). Fills (stored_in x' p p' (stored_in y' q q' [])) (made_if i) a) h
    (subst (λ (m : List ℕ). Fills (stored_in x' p p' (stored_in m q q' [])) (made_if n) a) f
    (subst (λ (l : List ℕ). Fills (stored_in l p p' (stored_in y q q' [])) (made_if n) a) e k))

pub three_as : (x y z x' y' z' s r u : List ℕ) {s' r' u' : List ℕ} {n n' : ℕ} {a : Filled}
    → Fills (stored_in x s s' (stored_in y r r' (stored_in z u u' []))) (made_if n) a → x ≡ x' → y ≡ y' → z ≡ z' → n ≡ n'
    → Fills (stored_in x' s s' (stored_in y' r r' (stored_in z' u u' []))) (made_if n') a
three_as x y z x' y' z' s r u {s'} {r'} {u'} {n} {n'} {a} k e f g h =
    subst (λ (i : ℕ). Fills (stored_in x' s s' (stored_in y' r r' (stored_in z' u u' []))) (made_if i) a) h
    (subst (λ (l : List ℕ). Fills (stored_in x' s s' (stored_in y' r r' (stored_in l u u' []))) (made_if n) a) g
    (subst (λ (l : List ℕ). Fills (stored_in x' s s' (stored_in l r r' (stored_in z u u' []))) (made_if n) a) f
    (subst (λ (l : List ℕ). Fills (stored_in l s s' (stored_in y r r' (stored_in z u u' []))) (made_if n) a) e k)))

-- ---- the place

abbrev pub told : ℕ → Checked → ℕ
told count c = if_accepted c count (answer_place c)

pub room_told : (count needed has n : ℕ) (d : Checked) → needed ≡ n → told count d ≡ n → told count (length_check needed has or_else d) ≡ n
room_told count needed has n d e h = go (ltb has needed)
  where
    go : (b : Bool) → told count (pick b (Err (TooShort needed)) (Ok tt) or_else d) ≡ n
    go true = e
    go false = h
