-- Laws for the public call: what it means (`cusp_meaning`), what the call's number and place say (`cusps_says`), and the record of a symbol (`symbol_record`).
-- Assumes nothing.
use Rattle.std.specs.Prelude.{Ok}
use mathlib.Core.Path.{◌≡◌, refl, sym, ◌∙◌, ap}
use mathlib.Core.List.{List, [], ◌∷◌}
use Prim.Native.Nat.{ℕ, zero, suc, ◌+◌, ◌-◌, ◌<◌}
use native.Mathlib.Omega.{arith}
use lib.ListN.{length}
use lib.IntN.{ℤ, pos}
use Rattle.call.specs.Refusal.{◌or_else◌}
use Rattle.call.proofs.Answers.{pass_both}
use Rattle.call.specs.Call.{Lent, Asks, length_check, number_of, place_of}
use Rattle.call.proofs.Laws.{above_room, room_long}
use Rattle.symbol.specs.Symbol.{IsSymbol}
use Rattle.matrix.specs.Matrix.{Mat, ◌⊗◌, det, mat_t}
use Rattle.matrix.proofs.Matrix.{det_one}
use Rattle.numbering.specs.Table.{Permutes}
use Rattle.numbering.proofs.Space.{entries_same}
use Rattle.numbering.specs.Inner.Space.{S_TABLE, R_TABLE, T_TABLE}
use Rattle.figures.specs.Cusps.{times, cusps}
use Rattle.figures.specs.Inner.Scan.{held_t, CuspWidths}
use Rattle.figures.proofs.Filled.{S_stays, R_stays, T_stays}
use Rattle.coset.specs.Tables.{index_of, table_s, table_r, table_t}
use Rattle.right_cosets.specs.Leads.{leads}
use Rattle.right_cosets.proofs.Tabled.{some_points}
use Rattle.coset.specs.Theorem.{Cosets}
use Rattle.coset.proofs.Stored.{room_told}
use Rattle.coset.proofs.InWords.{in_words, permutations_of}
use Rattle.coset.proofs.Answer.{Made, meaning, symbol_cosets, sizes, few_cosets, symbol_says}
use Rattle.cusp_record.specs.Record.{cusp_width, cusp_of, cusp_steps, cusp_table, step_table}
use Rattle.cusp_record.specs.Answer.{cusp_column, step_column, cusp_reached, times_t, OneCusp, CuspMeaning, cusps_call}
use Rattle.cusp_record.specs.Inner.Fill.{ByCusps, RecordFilled, SymbolRecord}
use Rattle.cusp_record.proofs.Record.{ahead, cusp_at_lem, in_order_is, coset_record}
use Rattle.cusp_record.proofs.Fill.{scanned}

-- ---- what it means

module _ {v : ℕ} {t : List ℤ} (ok : IsSymbol v t) where
  abbrev u : List ℕ
  u = table_t v t

  abbrev at : Mat → ℕ
  at m = leads (table_s v t) (table_r v t) m

  cosets : Cosets v t (table_s v t) (table_r v t) (table_t v t)
  cosets = (meaning ok).cosets

  p : Permutes u
  p = cosets.permutes_T

  at_low : (m : Mat) → det m ≡ pos 1 → at m < length u
  at_low m d = omega (arith, cosets.of_H.low m d, cosets.size_T)

  det_T : det mat_t ≡ pos 1
  unfolding mat_t det
  det_T = refl

  T_unit : (m : Mat) (n : ℕ) → det m ≡ pos 1 → det (times_t m n) ≡ pos 1
  T_unit m zero d = d
  T_unit m (suc n) d = T_unit (m ⊗ mat_t) n (det_one m mat_t d det_T)

  T_leads : (m : Mat) (n : ℕ) → det m ≡ pos 1 → at (times_t m n) ≡ times u n (at m)
  unfolding times
  T_leads m zero d = refl
  T_leads m (suc n) d = T_leads (m ⊗ mat_t) n (T_unit m 1 d) ∙ ap (times u n) (cosets.by_T m d)

  module _ (a b : Mat) (da : det a ≡ pos 1) (db : det b ≡ pos 1) where
    cusp_a : cusp_reached v t a ≡ cusp_of u (at a)
    cusp_a = cusp_at_lem p (at a) (at_low a da)

    cusp_b : cusp_reached v t b ≡ cusp_of u (at b)
    cusp_b = cusp_at_lem p (at b) (at_low b db)

    one_cusp_if : cusp_reached v t a ≡ cusp_reached v t b → OneCusp v t a b
    one_cusp_if e =
        let n = cusp_width u (cusp_of u (at a)) - cusp_steps u (at a) + cusp_steps u (at b) in
        let there = ahead p (at a) (at b) (at_low a da) (at_low b db) (sym cusp_a ∙ e ∙ cusp_b) in
        record { steps = n; joined = (in_words cosets (times_t a n) b (T_unit a n da) db).0 (T_leads a n da ∙ there) }

    one_cusp_only : OneCusp v t a b → cusp_reached v t a ≡ cusp_reached v t b
    one_cusp_only g =
        let n = g.steps in
        let there = sym (T_leads a n da) ∙ (in_words cosets (times_t a n) b (T_unit a n da) db).1 g.joined in
        cusp_a ∙ sym ((in_order_is p).keeps_all n (at a) (at_low a da)) ∙ ap (cusp_of u) there ∙ sym cusp_b

  pub cusp_meaning : CuspMeaning v t
  cusp_meaning = record {
    tables = meaning ok;
    rule = coset_record (permutations_of cosets) cosets.T_is;
    one_cusp = λ a b da db. (one_cusp_if a b da db, one_cusp_only a b da db);
  }

-- ---- what the number says

pub cusps_says : (v : ℕ) (t : List ℤ) (w cusps steps : Lent (List ℕ))
    → (cusps_call v t w cusps steps).Says (number_of (cusps_call v t w cusps steps)) (place_of (cusps_call v t w cusps steps))
cusps_says v t w cusps steps =
    let x = length (cusp_column v t) in
    let y = length (step_column v t) in
    let a = length_check x (length cusps.entry.now) in
    let b = length_check y (length steps.entry.now) in
    let N = index_of v t in
    symbol_says v t w N N (cusps ∷ steps ∷ []) (Asks a ∷ Asks b ∷ [])
    (above_room x (length cusps.entry.now), (above_room y (length steps.entry.now), tt))
    cusp_meaning (λ ok.
    let rule = (cusp_meaning ok).rule.columns in
    room_told N x (length cusps.entry.now) N (b or_else (Ok tt)) (rule.size_cusps ∙ (sizes ok).T_long)
    (room_told N y (length steps.entry.now) N (Ok tt) (rule.size_steps ∙ (sizes ok).T_long) refl))
    (λ ok ample.
    let rule = (cusp_meaning ok).rule.columns in
    let long = (sizes ok).T_long in
    let few = few_cosets ok in
    pass_both a (b or_else (Ok tt)) (room_long x (length cusps.entry.now) (omega (arith, rule.size_cusps, long, few, ample.0)))
    (pass_both b (Ok tt) (room_long y (length steps.entry.now) (omega (arith, rule.size_steps, long, few, ample.1.0))) refl))

-- ---- the record of a symbol: from the tables that were arranged, through the scan of the cusps
module _ {t : List ℤ} {v n k : ℕ} {w w1 : List ℕ} (ok : IsSymbol v t) (m : Made t v w n) (c : CuspWidths n w w1 k) where
  some : 0 < n
  some = omega (arith, m.index, some_points (symbol_cosets ok))

  pub lists_are : ByCusps (held_t n w1) n k w1
  lists_are = scanned m.permuted c (T_stays m.permuted c) some

  pub symbol_record : {w₀ w2 : List ℕ} → length w ≡ length w₀ → RecordFilled (held_t n w1) n k w1 w2 → SymbolRecord v t w₀ w2 n
  symbol_record {w₀} {w2} same f =
      let p = m.permuted in
      let T1 : held_t n w1 ≡ table_t v t = T_stays p c ∙ m.T_is in
      let count : k ≡ length (cusps (table_t v t)) = f.lists.count ∙ ap (λ (u : List ℕ). length (cusps u)) T1 in
      let room = p.room in
      let long = p.long in
      let same1 = c.frame.same in
      record {
        index = m.index;
        same = f.frame.same ∙ same1 ∙ same;
        S_is = entries_same S_TABLE n w1 w2 f.frame.same (omega arith) (λ i a b. f.frame.between i a (omega arith)) ∙ S_stays p c ∙ m.S_is;
        R_is = entries_same R_TABLE n w1 w2 f.frame.same (omega arith) (λ i a b. f.frame.above i (omega arith)) ∙ R_stays p c ∙ m.R_is;
        T_is = entries_same T_TABLE n w1 w2 f.frame.same (omega arith) (λ i a b. f.frame.above i (omega arith)) ∙ T1;
        lists = rw (← T1, ← rw (← T1) at count) f.lists;
        cusps_are = f.cusps_are ∙ ap cusp_table T1;
        steps_are = f.steps_are ∙ ap step_table T1;
      }
