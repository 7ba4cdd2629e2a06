-- Laws for the public calls: the tables that were arranged (`Made`, `made`), what they mean (`meaning`, `symbol_cosets`), how long they are (`sizes`,
-- `few_cosets`, `widths_count`), what the numbers and places of the calls say (`symbol_says`, `tables_says`, `widths_says`, `figures_says`), the figures
-- (`surveyed`), and what an answer of `figures` tells (`run_figured`, `run_unfigured`, `figures_are`).
-- Assumes nothing.
use Rattle.std.specs.Prelude.{Ok, Err}
use mathlib.Core.Path.{◌≡◌, refl, sym, ◌∙◌, ap}
use mathlib.Core.Logic.{inl, inr}
use mathlib.Core.List.{List, [], ◌∷◌}
use Prim.Native.Nat.{ℕ, ◌+◌, ◌≤◌}
use native.Mathlib.Omega.{arith}
use lib.ListN.{length, length-map, get_or}
use lib.IntN.{ℤ}
use Rattle.basics.proofs.Count.{length_those}
use Rattle.call.specs.Space.{entries}
use Rattle.call.specs.Refusal.{◌or_else◌, answer_number, Checked, Answer}
use Rattle.call.specs.declared.refusal.Refusal.{Refusal}
use Rattle.call.proofs.Answers.{pass_both}
use Rattle.call.specs.Call.{Lent, Step, Asks, length_check, verdict, if_accepted, Leaves, number_of, place_of}
use Rattle.call.specs.Inner.Fills.{Fills}
use Rattle.call.proofs.Laws.{Run, Numbered, above_room, room_long}
use Rattle.call.proofs.Answered.{run_told}
use Rattle.symbol.specs.Symbol.{IsSymbol}
use Rattle.pairing.specs.Generator.{generators}
use Rattle.pairing.specs.Subgroup.{InH}
use Rattle.pairing.proofs.Admitted.{symbol_verdict, symbol_passed, symbol_short, symbol_behind, symbol_zero}
use Rattle.polygon.specs.Step.{odd_at}
use Rattle.polygon.proofs.SymbolFacts.{count_most}
use Rattle.polygon.proofs.Polygon.{polygon}
use Rattle.numbering.specs.Inner.Space.{S_TABLE, R_TABLE, T_TABLE}
use Rattle.right_cosets.specs.Cosets.{CosetsOf}
use Rattle.figures.specs.Cusps.{smallest, width, cusps, widths}
use Rattle.figures.specs.declared.FigureRecord.{FigureRecord}
use Rattle.figures.specs.Inner.Scan.{Permuted, FiguresOf}
use Rattle.figures.proofs.Filled.{filled_permuted, S_stays, R_stays, T_stays}
use Rattle.figures.proofs.Cusps.{cusps_are}
use Rattle.coset.specs.Tables.{cosets, table_s, table_r, table_t, index_of, most_cosets}
use Rattle.coset.specs.Inner.Work.{Arranged}
use Rattle.coset.specs.Answer.{widths_of, figures_of, figure_number, figure_numbers, Meaning, Ample, SymbolSays}
use Rattle.coset.specs.Answer.{tables_call, widths_call, figures_call}
use Rattle.coset.specs.Inner.Survey.{Surveyed, figured_if}
use Rattle.coset.proofs.Stored.{told, room_told}
use Rattle.coset.proofs.TableFigures.{table_figures}
use Rattle.coset.proofs.OddSides.{odd_sides}
use Rattle.coset.proofs.EvenSides.{even_sides}
use Rattle.coset.proofs.Genus.{symbol_genus}
use Rattle.coset.proofs.Positions.{positions}
use Rattle.coset.proofs.Theorem.{size_is, cosets_are, maps, injective_S, injective_R}

-- ---- the tables

-- what was arranged: so many cosets as the index says, and their tables
pub record Made (t : List ℤ) (v : ℕ) (w : List ℕ) (n : ℕ) : Type 0 where
  pub index : n ≡ index_of v t
  pub few : n ≤ 4096
  pub S_is : entries S_TABLE n w ≡ table_s v t
  pub R_is : entries R_TABLE n w ≡ table_r v t
  pub T_is : entries T_TABLE n w ≡ table_t v t
  pub permuted : Permuted n w

pub made : {t : List ℤ} {v : ℕ} {w : List ℕ} {n : ℕ} → IsSymbol v t → Arranged t v w n → Made t v w n
unfolding cosets table_s table_r table_t
made {t} {v} ok a =
    let b = a.tables in
    record {
      index = b.count ∙ size_is v t (polygon v t ok);
      few = omega (arith, b.marks.few, b.marks.room);
      S_is = b.S_is;
      R_is = b.R_is;
      T_is = b.T_is;
      permuted = filled_permuted (maps v t (polygon v t ok)) b (injective_S v t (polygon v t ok)) (injective_R v t (polygon v t ok));
    }

-- ---- what it means

pub few_cosets : {v : ℕ} {t : List ℤ} → IsSymbol v t → index_of v t ≤ most_cosets
few_cosets {v} {t} ok = omega (arith, count_most (odd_at v t) (v + 1), ok.most)

pub meaning : {v : ℕ} {t : List ℤ} → IsSymbol v t → Meaning v t
meaning {v} {t} ok =
    let g = polygon v t ok in
    let c = cosets_are v t g in
    let k = cusps_are c.permutes_T in
    record {
      symbol = ok;
      positions = positions ok;
      cosets = c;
      few = few_cosets ok;
      cusps = k;
      figures =
          table_figures (index_of v t) (table_s v t) (table_r v t) (table_t v t) (sym c.of_H.size_S) c.permutes_T k;
      even_sides = even_sides v t ok g;
      odd_sides = odd_sides v t g;
      genus = symbol_genus v t g;
    }

-- the tables of S and R are those of the right cosets of H
pub symbol_cosets : {v : ℕ} {t : List ℤ} → IsSymbol v t → CosetsOf (InH (generators v t)) (index_of v t) (table_s v t) (table_r v t)
symbol_cosets ok = (meaning ok).cosets.of_H

-- the tables have as many entries as there are cosets
pub record Sizes (v : ℕ) (t : List ℤ) : Type 0 where
  pub S_long : length (table_s v t) ≡ index_of v t
  pub R_long : length (table_r v t) ≡ index_of v t
  pub T_long : length (table_t v t) ≡ index_of v t

pub sizes : {v : ℕ} {t : List ℤ} → IsSymbol v t → Sizes v t
sizes {v} {t} ok = let c = cosets_are v t (polygon v t ok) in record { S_long = c.of_H.size_S; R_long = c.of_H.size_R; T_long = c.size_T }

-- there are no more cusps than cosets
few_widths : (u : List ℕ) → length (widths u) ≤ length u
few_widths u = omega (arith, length-map (cusps u) (width u), length_those (smallest u) (length u), count_most (smallest u) (length u))

-- there is one width for each cusp
widths_count : {v : ℕ} {t : List ℤ} → IsSymbol v t → length (widths_of v t) ≡ (figures_of v t).cusps
widths_count ok = let f = (meaning ok).figures in f.as_many ∙ sym f.cusp_count

-- ---- what the numbers and the places say

-- a call that asks for a symbol and for the work space, and then has the steps l
pub symbol_says : {M : Type 0} (v : ℕ) (t : List ℤ) (w : Lent (List ℕ)) (count n : ℕ) (outs : List (Lent (List ℕ))) (l : List Step) → Numbered l
    → (IsSymbol v t → M) → (IsSymbol v t → told count (verdict l) ≡ n) → (IsSymbol v t → Ample outs → verdict l ≡ Ok tt)
    → let c = symbol_verdict v t w.entry.now l in SymbolSays M v t w n outs (answer_number c) (told count c)
symbol_says v t w count n outs l above m k h = record {
  symbol = λ z. elim z [ inl e ↦ (symbol_passed v t w.entry.now l above e).0 | inr e ↦ symbol_short v t w.entry.now l e ];
  means = m;
  place_is = λ ok long. ap (told count) (symbol_behind v t w.entry.now l ok long) ∙ k ok;
  enough = λ ok long ample. symbol_zero v t w.entry.now l ok long (h ok ample);
}

module _ (v : ℕ) (t : List ℤ) (w : Lent (List ℕ)) where
  pub tables_says : (s r u : Lent (List ℕ)) → (tables_call v t w s r u).Says (number_of (tables_call v t w s r u)) (place_of (tables_call v t w s r u))
  tables_says s r u =
      let a = length_check (length (table_s v t)) (length s.entry.now) in
      let b = length_check (length (table_r v t)) (length r.entry.now) in
      let c = length_check (length (table_t v t)) (length u.entry.now) in
      let N = index_of v t in
      symbol_says v t w N N (s ∷ r ∷ u ∷ []) (Asks a ∷ Asks b ∷ Asks c ∷ []) (
        above_room (length (table_s v t)) (length s.entry.now),
        (above_room (length (table_r v t)) (length r.entry.now), (above_room (length (table_t v t)) (length u.entry.now), tt)),
      )
      meaning (λ ok.
      let n = sizes ok in
      room_told N (length (table_s v t)) (length s.entry.now) N (b or_else c or_else (Ok tt)) n.S_long
      (room_told N (length (table_r v t)) (length r.entry.now) N (c or_else (Ok tt)) n.R_long
      (room_told N (length (table_t v t)) (length u.entry.now) N (Ok tt) n.T_long refl)))
      (λ ok ample.
      let n = sizes ok in
      let few = few_cosets ok in
      pass_both a (b or_else c or_else (Ok tt)) (room_long (length (table_s v t)) (length s.entry.now) (omega (arith, n.S_long, few, ample.0)))
      (pass_both b (c or_else (Ok tt)) (room_long (length (table_r v t)) (length r.entry.now) (omega (arith, n.R_long, few, ample.1.0)))
      (pass_both c (Ok tt) (room_long (length (table_t v t)) (length u.entry.now) (omega (arith, n.T_long, few, ample.1.1.0))) refl)))

  pub widths_says : (out : Lent (List ℕ)) → (widths_call v t w out).Says (number_of (widths_call v t w out)) (place_of (widths_call v t w out))
  widths_says out =
      let n = length (widths_of v t) in
      let a = length_check n (length out.entry.now) in
      symbol_says v t w n (figures_of v t).cusps (out ∷ []) (Asks a ∷ []) (above_room n (length out.entry.now), tt) meaning
      (λ ok. room_told n n (length out.entry.now) (figures_of v t).cusps (Ok tt) (widths_count ok) (widths_count ok))
      (λ ok ample. pass_both a (Ok tt)
      (room_long n (length out.entry.now) (omega (arith, few_widths (table_t v t), (sizes ok).T_long, few_cosets ok, ample.0))) refl)

  -- from what it leaves, too: the genus stands there
  pub figures_says : (out : Lent (List ℕ)) → Leaves (figures_call v t w out).steps
      → (figures_call v t w out).Says (number_of (figures_call v t w out)) (place_of (figures_call v t w out))
  figures_says out left = (
    symbol_says v t w 0 0 [] [] tt meaning (λ ok. refl) (λ ok ample. refl),
    λ z.
        let p = symbol_passed v t w.entry.now [] tt z in
        let numbers = figure_numbers (figures_of v t) in
        let there = left.1.0 ∙ ap (λ (c : Checked). if_accepted c numbers out.entry.now) p.1 in
        ap (λ (l : List ℕ). get_or l 4 18) there ∙ ap figure_number (meaning p.0).genus.is,
  )

-- ---- figures

module _ {t : List ℤ} {v n : ℕ} {w w' : List ℕ} {f : FigureRecord} (m : Made t v w n) (of : FiguresOf n w w' f) where
  pub surveyed : {w₀ : List ℕ} → length w ≡ length w₀ → Surveyed v t w₀ w' f
  surveyed same =
      let cusps = of.cusps_are in
      let index : f.index ≡ n = ap (λ (x : FigureRecord). x.index) of.figures in
      record {
        figures = of.figures ∙ cc (m.index, m.S_is, m.R_is, m.T_is);
        same = cusps.frame.same ∙ same;
        few = omega (arith, index, m.few);
        few_cusps = omega (arith, cusps.few, m.few);
        S_is = rw index (S_stays m.permuted cusps ∙ m.S_is);
        R_is = rw index (R_stays m.permuted cusps ∙ m.R_is);
        T_is = rw index (T_stays m.permuted cusps ∙ m.T_is);
        widths_are = cusps.table ∙ ap widths m.T_is;
      }

-- ---- what an answer of `figures` tells of the steps

refused_figured : {A : Type 0} {r : Refusal} {x : FigureRecord} → Err r ≡ Ok x → A
refused_figured e = let z : ◌≡◌ {A = ℕ} 0 1 = cc in absurd (omega arith)

module _ (f : FigureRecord) {a : (Answer FigureRecord)} where
  accepted_by_made : (x : FigureRecord) → a ≡ Ok x → (c : Checked) → a ≡ figured_if f c → c ≡ Ok tt
  accepted_by_made x e (Ok tt) h = refl
  accepted_by_made x e (Err r) h = refused_figured (sym h ∙ e)

  refused_by_refused : (r : Refusal) → a ≡ Err r → (c : Checked) → a ≡ figured_if f c → c ≡ Err r
  refused_by_refused r e (Ok tt) h = refused_figured (sym e ∙ h)
  refused_by_refused r e (Err q) h = cc

  same_figures : (x : FigureRecord) → a ≡ Ok x → (c : Checked) → a ≡ figured_if f c → x ≡ f
  same_figures x e (Ok tt) h = cc
  same_figures x e (Err r) h = refused_figured (sym h ∙ e)

module _ {f : FigureRecord} {a : (Answer FigureRecord)} {steps : List Step} (g : Fills steps (figured_if f) a) where
  pub run_figured : (x : FigureRecord) → a ≡ Ok x → Run steps (Ok tt)
  run_figured x e = run_told (Ok tt) g (accepted_by_made f x e)

  pub run_unfigured : (r : Refusal) → a ≡ Err r → Run steps (Err r)
  run_unfigured r e = run_told (Err r) g (refused_by_refused f r e)

  pub figures_are : (x : FigureRecord) → a ≡ Ok x → x ≡ f
  figures_are x e = same_figures f x e (verdict steps) g.answer
