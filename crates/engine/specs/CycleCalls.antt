-- CYCLE NOTATION BY WHAT THE EXPORTED CALLS RETURN AND WRITE.
--
--   MeansInSpaces t s r n place   what number and place mean by the grammar alone (cycle_reading, `ReadCyclesMean`),
--                             for the lent result spaces s and r
--   read_cycles_call t s r    `farey_read_cycles`: number and place mean this
--   OneAnswer                 [means-only] what number and place mean, by the grammar alone, allows one number and one
--                             place for each text; proofs/CycleCalls.antt has the proof
--   ExportReadBack s r t      READING AN EXPORT RETURNS THE TABLES: the text t is read as the tables s and r, wherever
--                             there is room for them
--   write_cycles_call s r out  `farey_write_cycles`: 0 says that an export stands at the front of the result space, of
--                             as many bytes as the place says
use Rattle.std.specs.Prelude.{◌≡◌, List, ℕ, ◌≤◌, length, take, Ok}
use Rattle.call.specs.Call.{Lent, verdict, Contract, number_of, place_of}
use Rattle.cycle_reading.specs.Reading.{read_s, read_r, read_steps, ReadCyclesMean}
use Rattle.cycle_writing.specs.Bytes.{export_of}
use Rattle.cycle_writing.specs.Export.{export_steps, Exported}

abbrev pub MeansInSpaces : List ℕ → (s r : Lent (List ℕ)) → (number place : ℕ) → Type 0
MeansInSpaces t s r number place =
    ReadCyclesMean t (length s.entry.now) (length r.entry.now) s.exit.now r.exit.now number place

abbrev pub read_cycles_call : List ℕ → (s r : Lent (List ℕ)) → Contract
read_cycles_call t s r = record {
  steps = read_steps t s r;
  count = length (read_s t);
  Says = MeansInSpaces t s r;
}

abbrev pub OneAnswer : Type 0
OneAnswer = (t : List ℕ) (s r : Lent (List ℕ)) (number place : ℕ) → MeansInSpaces t s r number place
    → (number ≡ number_of (read_cycles_call t s r)) × (place ≡ place_of (read_cycles_call t s r))

pub record ExportReadBack (s r t : List ℕ) : Type 0 where
  pub answer : (a b : Lent (List ℕ)) → length s ≤ length a.entry.now → length s ≤ length b.entry.now
      → verdict (read_steps t a b) ≡ Ok tt
  pub S_is : read_s t ≡ s
  pub R_is : read_r t ≡ r

abbrev pub write_cycles_call : (s r : List ℕ) → Lent (List ℕ) → Contract
write_cycles_call s r out = record {
  steps = export_steps s r out;
  count = length (export_of s r);
  Says = λ number place. number ≡ 0
      → Exported s r (take place out.exit.now) × ExportReadBack s r (take place out.exit.now);
}
