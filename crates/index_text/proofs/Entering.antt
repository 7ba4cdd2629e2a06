-- The lines of the table, one after another.
--     entry_put         one line: its spaces, its number and its end
--     entries_more      one line more
--     Entered           the state of the loop that puts the lines: `entered_none`, `entered_more` and `entered_all` are its start, a turn, its end
--     constant_put      the head, the lines and the tail
-- Assumes nothing.
use mathlib.Core.Path.{◌≡◌, refl, ap, ◌∙◌}
use mathlib.Core.List.{List, [], ◌∷◌, ◌++◌}
use Prim.Native.Nat.{ℕ, ◌+◌, ◌-◌, ◌*◌, ◌≤◌}
use lib.IntN.{pos}
use native.Mathlib.Numerals.{add-one}
use native.Mathlib.Omega.{arith}
use lib.ListN.{length}
use Rattle.decimal.specs.Decimal.{digits, decimal_of}
use Rattle.congruence.specs.Index.{index0}
use Rattle.decimal.specs.Writing.{Puts}
use Rattle.decimal.proofs.Placing.{puts_as, puts_none, puts_then, puts_same}
use Rattle.index_text.specs.Lines.{constant_head, constant_tail, entry_line, entry_lines, constant_lines}

pub entry_put : (n : ℕ) {x at m k e : ℕ} {out out1 out2 out3 : List ℕ} → x ≡ index0 n → Puts (32 ∷ 32 ∷ 32 ∷ 32 ∷ []) at m out out1
    → Puts (decimal_of (pos x)) m k out1 out2
    → Puts (44 ∷ 10 ∷ []) k e out2 out3
    → at ≤ length out → m ≤ length out1 → Puts (entry_line n) at e out out3
unfolding entry_line decimal_of
entry_put n i f g h room behind = puts_then f (puts_then (puts_as (ap digits i) g) h behind) room

pub entries_more : (k : ℕ) → entry_lines k ++ entry_line (k + 1) ≡ entry_lines (k + 1)
unfolding entry_lines
entries_more k = rw (add-one k) refl

-- ---- the loop after k lines of 26 bytes at most
pub record Entered (at k end : ℕ) (out₀ out : List ℕ) : Type 0 where
  pub puts : Puts (entry_lines k) at end out₀ out
  pub most : end ≤ at + 26 * k
  pub few : k ≤ 1000
  pub same : length out ≡ length out₀

pub entered_none : (at : ℕ) (out : List ℕ) → Entered at 0 at out out
unfolding entry_lines
entered_none at out = record { puts = puts_none at out; most = omega arith; few = omega arith; same = refl }

-- the turn of n, behind n - 1 lines
module _ {at n end : ℕ} {out₀ out : List ℕ} (s : Entered at (n - 1) end out₀ out) where
  pub entered_more : {end' : ℕ} {out' : List ℕ} → 1 ≤ n → n ≤ 1000 → at + 26000 ≤ length out₀ → Puts (entry_line n) end end' out out'
      → end' ≤ end + 26
      → Entered at (n + 1 - 1) end' out₀ out'
  entered_more l h room p more = let e : n + 1 - 1 ≡ n - 1 + 1 = omega arith in let f : n - 1 + 1 ≡ n = omega arith in rw e (record {
    puts = puts_as (entries_more (n - 1)) (puts_then s.puts (rw f p) (omega arith));
    most = omega (arith, s.most);
    few = omega arith;
    same = puts_same p (omega (arith, p.end_is, s.most, s.same)) ∙ s.same;
  })

module _ {at k end : ℕ} {out₀ out : List ℕ} (s : Entered at k end out₀ out) where
  pub entered_all : 1000 ≤ k → Puts (entry_lines 1000) at end out₀ out × (end ≤ at + 26000)
  entered_all h = let e : k ≡ 1000 = omega (arith, s.few) in (puts_as (ap entry_lines e) s.puts, omega (arith, s.most))

pub constant_put : {m k e : ℕ} {out out1 out2 out3 : List ℕ} → Puts constant_head 0 m out out1 → Puts (entry_lines 1000) m k out1 out2
    → Puts constant_tail k e out2 out3
    → m ≤ length out1 → Puts constant_lines 0 e out out3
unfolding constant_lines
constant_put f g h behind = puts_then f (puts_then g h behind) (omega arith)
