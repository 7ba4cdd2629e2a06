-- Laws of the line that is printed.
--     MadeLine, made_line         where an export is made: its length, its line, and its bytes at the front of the slice
--     RefusedLine, refused_line   where it is refused: its line, and the slice as it was; 11 does not occur, by the length of an export
--     puts_from                   bytes put into a slice that is as it was
--     line_as                     the line for what is asked, in other words
--     print_means                 what the bytes mean
-- Assumes nothing.
use Rattle.std.specs.Prelude.{Ok, Err}
use mathlib.Core.Path.{◌≡◌, refl, sym, ap, ◌∙◌}
use mathlib.Core.Bool.{Bool}
use mathlib.Core.List.{List, [], ◌∷◌, ◌++◌}
use Prim.Native.Nat.{ℕ, ◌+◌, ◌≤◌}
use native.Mathlib.Omega.{arith}
use lib.ListN.{length, drop}
use Rattle.call.specs.Refusal.{◌or_else◌, Checked, Filled}
use Rattle.call.specs.declared.refusal.Refusal.{Refusal}
use Rattle.call.specs.Call.{verdict}
use Rattle.call.specs.Inner.Fills.{Fills, made_if}
use Rattle.call.proofs.Apart.{refused_accepted}
use Rattle.call.proofs.Answers.{both_pass}
use Rattle.call.proofs.Answered.{run_made, run_refused, made_count}
use Rattle.decimal.specs.Writing.{bytes_placed}
use Rattle.text.specs.Line.{refusal_line}
use Rattle.decimal.specs.Writing.{Puts}
use Rattle.permutations.specs.Check.{pair_check}
use Rattle.permutations.proofs.Answering.{passport_of}
use Rattle.cycle_writing.specs.Bytes.{export_of}
use Rattle.cycle_writing.proofs.Theorem.{exported}
use Rattle.cycle_writing.proofs.Answers.{put_steps, export_run, enough_room}
use Rattle.symbol_texts.specs.ImportAnswer.{Request, request_of}
use Rattle.cycle_texts.specs.ToCyclesAnswer.{export_line_by, export_line, export_line_for, to_cycles_text, ExportPrintMeans}

refused_same : {f g : Refusal} → ◌≡◌ {A = Checked} (Err f) (Err g) → f ≡ g
refused_same e = cc

line_by : (s r : List ℕ) (c : Checked) → pair_check s r ≡ c → export_line_by c (export_of s r) ≡ export_line s r
unfolding export_line
line_by s r c e = ap (λ (x : Checked). export_line_by x (export_of s r)) (sym e)

puts_export : (bs : List ℕ) (n : ℕ) (out out' : List ℕ) → n ≡ length bs → out' ≡ bs ++ drop (length bs) out → Puts bs 0 n out out'
unfolding bytes_placed
puts_export bs n out out' e l =
    let end : n ≡ 0 + length bs = omega arith in
    record { end_is = end; left = l ∙ ap (λ (k : ℕ). bs ++ drop k out) (sym e ∙ end) }

pub record MadeLine (s r : List ℕ) (n : ℕ) (out out' : List ℕ) : Type 0 where
  pub line : export_of s r ++ (10 ∷ []) ≡ export_line s r
  pub most : n ≤ 65536
  pub puts : Puts (export_of s r) 0 n out out'

pub record RefusedLine (s r : List ℕ) (f : Refusal) (out out' : List ℕ) : Type 0 where
  pub line : refusal_line f ≡ export_line s r
  pub same : out' ≡ out

module _ (s r out out' : List ℕ) {a : Filled} (g : Fills (export_run s r out out') (made_if (length (export_of s r))) a) where
  pub made_line : (n : ℕ) → a ≡ Ok n → MadeLine s r n out out'
  made_line n e =
      let run = run_made g n e in
      let size = made_count g n e in
      let ok = (both_pass (pair_check s r) (verdict (put_steps s r out out')) run.is).0 in
      record {
        line = line_by s r (Ok tt) ok;
        most = omega (arith, size, (exported s r (passport_of s r ok)).most);
        puts = puts_export (export_of s r) n out out' size run.leaves.0;
      }

  pub refused_line : (f : Refusal) → a ≡ Err f → 65537 ≤ length out → RefusedLine s r f out out'
  refused_line f e l = record { line = go (pair_check s r) refl (run_refused g f e).is; same = (run_refused g f e).leaves.0 }
    where
      go : (c : Checked) → pair_check s r ≡ c → (pair_check s r or_else verdict (put_steps s r out out')) ≡ Err f → refusal_line f ≡ export_line s r
      go (Err h) q z =
          ap refusal_line (refused_same (sym z ∙ ap (λ (c : Checked). c or_else verdict (put_steps s r out out')) q)) ∙ line_by s r (Err h) q
      go (Ok tt) q z = refused_accepted (sym z ∙ enough_room s r out out' (passport_of s r q) (omega (arith, l)))

pub puts_from : {bs : List ℕ} {at e : ℕ} {out out1 out2 : List ℕ} → out1 ≡ out → Puts bs at e out1 out2 → Puts bs at e out out2
puts_from {bs} {at} {e} {out} {out1} {out2} q p = rw (← q) p

pub line_as : (longer : Bool) (text : List ℕ) {a : Request} → a ≡ request_of longer text → export_line_for a ≡ to_cycles_text longer text
unfolding to_cycles_text
line_as longer text e = ap export_line_for e

pub print_means : (longer : Bool) (text bytes : List ℕ) → bytes ≡ to_cycles_text longer text → ExportPrintMeans (request_of longer text) bytes
unfolding to_cycles_text
print_means longer text bytes e s r a ok = record {
  bytes_are = e ∙ ap export_line_for a ∙ sym (line_by s r (Ok tt) ok);
  exported = exported s r (passport_of s r ok);
}
