-- What an answer of numbers says: there are so many, at least one, and they fit into the space.
--     numbers_count     a text without a bad piece has a number for each piece
--     handed_on         the law
--     input-longer, input-read, input-on     the same for a program's text
--     front_entries     where they then stand
-- Assumes nothing.
use Rattle.std.specs.Prelude.{Ok, Err, Option, None, Some}
use mathlib.Core.Path.{◌≡◌, refl, sym, ap}
use mathlib.Core.Bool.{Bool, true, false, ◌&&◌}
use mathlib.Core.List.{List, [], ◌∷◌}
use Prim.Native.Nat.{ℕ, suc, ◌+◌, ◌*◌, ◌≤◌, ◌<◌}
use native.Mathlib.Decide.{dec_lt}
use native.Mathlib.Omega.{arith}
use lib.Dec.{leb}
use lib.IntN.{ℤ, pos, negsuc}
use lib.ListN.{length, take, drop}
use lib.Seq.{take_at, length-take-le}
use borrow.Author.Tests.{lt-ltb, le-ltb}
use Rattle.call.specs.declared.refusal.Refusal.TheVariants.{TooShort, BadText}
use Rattle.text.specs.Piece.{Piece, pieces, first_bad, numbers}
use Rattle.text.specs.Reading.{text_most, wanted, handed, count_place, first_place, or_else, place19, answer, reading_of, input_of}
use Rattle.text.specs.Inner.Inside.{left_by}
use Rattle.text.specs.declared.Format.{Format}
use Rattle.text.proofs.Clash.{clash}

-- no place is no place
no_place : {A : Type 0} {p : ℕ} → Some p ≡ None → A
no_place e = let z : ◌≡◌ {A = ℕ} 0 1 = cc in absurd (omega arith)

pub numbers_count : (ps : List Piece) → first_bad ps ≡ None → length (numbers ps) ≡ length ps
unfolding first_bad numbers
numbers_count [] e = refl
numbers_count (p ∷ ps) e = go p.says refl (numbers_count ps)
  where
    go : (o : Option ℤ) → p.says ≡ o → (first_bad ps ≡ None → length (numbers ps) ≡ length ps) → length (numbers (p ∷ ps)) ≡ suc (length ps)
    go None h ih = no_place (rw (first_bad, h) at e)
    go (Some n) h ih = rw (numbers, h) (ap suc (ih (rw (first_bad, h) at e)))

pub record Handed (ns : List ℤ) (room k : ℕ) : Type 0 where
  pub some_one : 1 ≤ k
  pub there : k ≤ length ns
  pub fitting : k ≤ room

-- an answer of numbers names no place, and they fit
record Given (o : Option ℕ) (h room k : ℕ) : Type 0 where
  pub placeless : o ≡ None
  pub count : k ≡ h
  pub fitting : h ≤ room

given : (o : Option ℕ) (h room k : ℕ) → Ok k ≡ answer o h room → Given o h room k
unfolding answer
given (Some p) h room k e = clash cc
given None h room k e = go (dec_lt room h)
  where
    go : Dec (room < h) → Given None h room k
    go (yes l) = let f : Ok k ≡ Err (TooShort h) = rw (answer, lt-ltb room h l) at e in clash cc
    go (no l) =
        let f : Ok k ≡ Ok h = rw (answer, le-ltb room h (omega arith)) at e in
        record { placeless = refl; count = cc; fitting = omega arith }

-- no place of refusal 19: no bad piece, and the count is right
record Sound (f : Format) (t : List ℕ) : Type 0 where
  pub good : first_bad (pieces t) ≡ None
  pub counted : first_place f (numbers (pieces t)) (length t) (pieces t) ≡ None

sound : (f : Format) (t : List ℕ) → place19 f t ≡ None → Sound f t
unfolding place19
sound f t e = go (dec_lt text_most (length t))
  where
    both : (p q : Option ℕ) → or_else p q ≡ None → (p ≡ None) × (q ≡ None)
    both None q h = (refl, h)
    both (Some p) q h = no_place h

    go : Dec (text_most < length t) → Sound f t
    go (yes l) = no_place (rw (lt-ltb text_most (length t) l) at e)
    go (no l) =
        let h = both (first_bad (pieces t)) (first_place f (numbers (pieces t)) (length t) (pieces t)) (rw (le-ltb text_most (length t) (omega arith)) at e) in
        record { good = h.0; counted = h.1 }

some_wanted : (f : Format) (v : ℤ) (w : ℕ) → 1 ≤ f.more → wanted f v ≡ Some w → 1 ≤ w
unfolding wanted
some_wanted f (pos v) w m e = go (leb f.least v && leb v f.most) refl
  where
    go : (b : Bool) → (leb f.least v && leb v f.most) ≡ b → 1 ≤ w
    go true h = let g : Some (f.each * v + f.more) ≡ Some w = rw (wanted, h) at e in let k : f.each * v + f.more ≡ w = cc in omega arith
    go false h = no_place (sym (rw (wanted, h) at e))
some_wanted f (negsuc v) w m e = no_place (sym e)

just_so : (w n : ℕ) (ps : List Piece) → count_place (Some w) n ps ≡ None → w ≡ length ps
unfolding count_place
just_so w n ps h = go (dec_lt (length ps) w) (dec_lt w (length ps))
  where
    go : Dec (length ps < w) → Dec (w < length ps) → w ≡ length ps
    go (yes a) b = no_place (rw (count_place, lt-ltb (length ps) w a) at h)
    go (no a) (yes b) = no_place (rw (count_place, le-ltb (length ps) w (omega arith), lt-ltb w (length ps) b) at h)
    go (no a) (no b) = omega arith

-- so many are handed on as there are
handed_there : (f : Format) (ns : List ℤ) (n : ℕ) (ps : List Piece) → 1 ≤ f.more → length ns ≡ length ps → first_place f ns n ps ≡ None
    → (1 ≤ handed f ns) × (handed f ns ≤ length ns)
unfolding first_place handed
handed_there f [] n ps m l e = no_place e
handed_there f (v ∷ ns) n ps m l e = go (wanted f v) refl
  where
    go : (o : Option ℕ) → wanted f v ≡ o → (1 ≤ handed f (v ∷ ns)) × (handed f (v ∷ ns) ≤ length (v ∷ ns))
    go None h = rw (handed, h) (omega arith, omega arith)
    go (Some w) h =
        let k = just_so w n ps (rw (first_place, h) at e) in
        rw (handed, h) (some_wanted f v w m h, omega (arith, k, l))

pub handed_on : (f : Format) (t : List ℕ) (room k : ℕ) → 1 ≤ f.more → Ok k ≡ reading_of f t room → Handed (numbers (pieces t)) room k
unfolding reading_of
handed_on f t room k m e =
    let g = given (place19 f t) (handed f (numbers (pieces t))) room k e in
    let s = sound f t g.placeless in
    let h = handed_there f (numbers (pieces t)) (length t) (pieces t) m (numbers_count (pieces t) s.good) s.counted in
    record { some_one = omega (arith, g.count, h.0); there = omega (arith, g.count, h.1); fitting = omega (arith, g.count, g.fitting) }

-- the same for a program's text
pub input_longer : (longer : Bool) (f : Format) (t : List ℕ) (room : ℕ) → longer ≡ true → Err (BadText text_most) ≡ input_of longer f t room
unfolding input_of
input_longer longer f t room e = rw e refl

pub input_read : (longer : Bool) (f : Format) (t : List ℕ) (room : ℕ) → longer ≡ false → reading_of f t room ≡ input_of longer f t room
unfolding input_of
input_read longer f t room e = rw e refl

pub input_on : (longer : Bool) (f : Format) (t : List ℕ) (room k : ℕ) → 1 ≤ f.more → Ok k ≡ input_of longer f t room
    → Handed (numbers (pieces t)) room k
unfolding input_of
input_on true f t room k m e = clash cc
input_on false f t room k m e = handed_on f t room k m e

-- where they then stand
pub front_entries : (ns out : List ℤ) (k : ℕ) → k ≤ length ns → take k (left_by (Ok k) ns out) ≡ take k ns
unfolding left_by
front_entries ns out k there = take_at (take k ns) (drop k out) k (length-take-le k ns there)
