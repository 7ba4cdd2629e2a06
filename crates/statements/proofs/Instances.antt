-- Each of the starred instances holds: one test over the whole table, and one law that turns it into each of them.
--
-- In order: the test computes to true (`all_hold_lem`); a test for sameness that passes gives an equation, on lists (`same_list_lem`) and on answers
-- (`same_answer_lem`); so each instance of a list that passes holds (`holds_at`), and each of the table (`each`). Then, for a reader, two of them
-- written out: the tables of Γ(2), and that in Γ0(2) no word leads from I to S.
-- Assumes nothing.
use Rattle.std.specs.Prelude.{Err}
use mathlib.Core.Path.{◌≡◌, refl, ◌∙◌, ap, ap₂}
use mathlib.Core.Bool.{Bool, true, ◌&&◌}
use mathlib.Core.List.{List, [], ◌∷◌, map}
use Prim.Native.Nat.{ℕ, zero, suc, ◌<◌}
use native.Mathlib.Nat.{le_of_suc-le-suc, not-suc-le-zero}
use lib.Dec.{eqb, lit<}
use lib.ListN.{length, get_or}
use lib.IntN.{pos}
use borrow.Author.Tests.{eqb-true}
use Rattle.matrix.specs.Matrix.{◌⊗◌, adj, det, mat_s, mat_q}
use Rattle.matrix.specs.Action.{at}
use Rattle.call.specs.Refusal.{outcome}
use Rattle.call.proofs.Told.{checks_told}
use Rattle.call.specs.declared.refusal.Refusal.TheVariants.{NoWord}
use Rattle.call.specs.Space.{work_length}
use Rattle.symbol.specs.Check.{eq_z}
use Rattle.symbol.proofs.Choice.{eq_z_true}
use Rattle.basics.proofs.Choice.{clash, and_left, and_right}
use Rattle.numbering.specs.Find.{find}
use Rattle.numbering.specs.Order.{add, order_to}
use Rattle.numbering.specs.Table.{renamed}
use Rattle.polygon.specs.Cut.{flip_of, under_zero}
use Rattle.polygon.specs.Step.{real, step_s, turn_q, written, start_of, origin_of}
use Rattle.polygon.specs.Walk.{followed}
use Rattle.signs.specs.Sign.{matrix_sign}
use Rattle.signs.specs.Step.{left_to_right, frame_sign, step_sign, query_sign}
use Rattle.coset.specs.Tables.{step_r, cosets, table_s, table_r, table_t}
use Rattle.containment.specs.Group.{same_tables}
use Rattle.word.specs.Answer.{query_of, closes, found_word, found_sign}
use Rattle.statements.specs.Instances.{InstanceAnswer, refuses, gives, answer_to, tables, Γ2, Γ0_2, I, S, lent_table, Instance, instances, instance_at}
use Rattle.statements.specs.Instances.{same_list, equal_answers, holds, all_hold, Holds}

pub all_hold_lem : all_hold instances ≡ true
unfolding ◌⊗◌ adj det mat_s mat_q at find add order_to renamed flip_of under_zero real step_s turn_q written start_of origin_of followed step_r cosets table_s table_r
    table_t same_tables closes found_word found_sign query_sign matrix_sign step_sign frame_sign left_to_right
all_hold_lem = refl

-- ---- from the test to the instances

same_list_lem : {A : Type 0} (same : A → A → Bool) → ((x y : A) → same x y ≡ true → x ≡ y) → (l m : List A) → same_list same l m ≡ true → l ≡ m
same_list_lem same sound [] [] e = refl
same_list_lem same sound [] (y ∷ m) e = clash e refl
same_list_lem same sound (x ∷ l) [] e = clash e refl
same_list_lem same sound (x ∷ l) (y ∷ m) e =
    ap₂ ◌∷◌ (sound x y (and_left (same x y) (same_list same l m) e)) (same_list_lem same sound l m (and_right (same x y) (same_list same l m) e))

same_answer_lem : (a b : InstanceAnswer) → equal_answers a b ≡ true → a ≡ b
same_answer_lem a b e =
    let number = eqb a.number b.number in
    let place = eqb a.place b.place in
    let rows = same_list (same_list eq_z) a.rows b.rows in
    let rest : (place && rows) ≡ true = and_right number (place && rows) e in
    let n = eqb-true a.number b.number (and_left number (place && rows) e) in
    let p = eqb-true a.place b.place (and_left place rows rest) in
    let l = same_list_lem (same_list eq_z) (same_list_lem eq_z eq_z_true) a.rows b.rows (and_right place rows rest) in
    ap (λ (k : ℕ). refuses k a.place a.rows) n ∙ ap₂ (refuses b.number) p l

holds_at : (l : List Instance) (past : Instance) → all_hold l ≡ true → (i : ℕ) → i < length l → Holds (get_or l i past)
holds_at [] past e i h = absurd (not-suc-le-zero h)
holds_at (x ∷ l) past e zero h = same_answer_lem (answer_to x.question) x.expected (and_left (holds x) (all_hold l) e)
holds_at (x ∷ l) past e (suc i) h = holds_at l past (and_right (holds x) (all_hold l) e) i (le_of_suc-le-suc h)

pub each : (i : ℕ) → i < length instances → Holds (instance_at i)
each i h = holds_at instances _ all_hold_lem i h

-- ---- two of them

pub Γ2_tables : answer_to (tables 3 Γ2 work_length (lent_table 6) (lent_table 6) (lent_table 6)) ≡ gives
    (map pos (1 ∷ 0 ∷ 4 ∷ 5 ∷ 2 ∷ 3 ∷ []) ∷ map pos (2 ∷ 3 ∷ 5 ∷ 4 ∷ 1 ∷ 0 ∷ []) ∷ map pos (3 ∷ 2 ∷ 1 ∷ 0 ∷ 5 ∷ 4 ∷ []) ∷ [])
Γ2_tables = each 8 (lit< tt)

pub Γ0_2_none : outcome (query_of 2 Γ0_2 I S work_length 1 0) ≡ Err NoWord
Γ0_2_none =
    let e = each 13 (lit< tt) in
    checks_told (outcome (query_of 2 Γ0_2 I S work_length 1 0)) NoWord (ap (λ (a : InstanceAnswer). a.number) e) (ap (λ (a : InstanceAnswer). a.place) e)
