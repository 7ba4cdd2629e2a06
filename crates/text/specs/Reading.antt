-- What `read` answers, and what it leaves in the lent slice.
--     text_most             the most bytes that a text may have
--     wanted f v            how many numbers a text of the format f has that begins with v; none where v is out of
--                           range
--     wanted_or1 w          the count w, or 1 where no count is wanted
--     handed f ns           how many of a text's numbers ns are handed on: those wanted, or v alone where v is out of
--                           range
--     count_place w n ps    where a text of n bytes with the pieces ps breaks the count w: at its end where they are
--                           too few, at the first extra piece where they are too many; none where they are just as
--                           many, or where no count is wanted
--     first_place f ns n ps  the same by the text's numbers ns: with no number at all they are too few
--     or_else p q            the place p, or q where there is none
--     place19 f t           the place of refusal 19; none where the text t is not refused
--     answer p k room       19 at the place p; or else k numbers, where they fit into `room` entries, or 11 with k
--     reading_of f t room    the answer to the text t
--     symbol_format         the form of a symbol's text: v from 1 to 1,023, and then 3v + 1 numbers
--     input_of longer f t room     the same for a program's text: refused where more was sent than the program's buffer
--                                 holds
--     by_reading g h r ns   g of the numbers that are handed on, of the text's numbers ns, or h of the refusal
--     input_gives f room g h longer t  the same for a program's text
--     vertex_count z        the first number as a number of vertices; a negative one is out of range as 0 is
--     count_in ns           that of the numbers ns
use Rattle.std.specs.Prelude.{Ok, Err, Option, None, Some}
use Rattle.std.specs.Prelude.{ℕ, ◌+◌, ◌*◌, Bool, ◌&&◌, List, [], ◌∷◌, ltb, leb, ℤ, pos, negsuc, length, take, get_or}
use Rattle.call.specs.Refusal.{Filled}
use Rattle.call.specs.declared.refusal.Refusal.TheVariants.{TooShort, BadText}
use Rattle.call.specs.declared.refusal.Refusal.{Refusal}
use Rattle.basics.specs.Choice.{pick}
use Rattle.text.specs.Piece.{Piece, pieces, first_bad, numbers, place_at}
use Rattle.text.specs.declared.Format.{Format}

abbrev pub text_most : ℕ
text_most = 65536

unfoldable pub wanted : Format → ℤ → Option ℕ
wanted f (pos v) = pick (leb f.least v && leb v f.most) (Some (f.each * v + f.more)) None
wanted f (negsuc v) = None

abbrev pub wanted_or1 : Option ℕ → ℕ
wanted_or1 None = 1
wanted_or1 (Some w) = w

unfoldable pub handed : Format → List ℤ → ℕ
handed f [] = 0
handed f (v ∷ ns) = wanted_or1 (wanted f v)

unfoldable pub count_place : Option ℕ → ℕ → List Piece → Option ℕ
count_place None n ps = None
count_place (Some w) n ps =
    pick (ltb (length ps) w) (Some n)
    (pick (ltb w (length ps)) (Some (place_at ps w))
    None)

unfoldable pub first_place : Format → List ℤ → ℕ → List Piece → Option ℕ
first_place f [] n ps = Some n
first_place f (v ∷ ns) n ps = count_place (wanted f v) n ps

abbrev pub or_else : Option ℕ → Option ℕ → Option ℕ
or_else None q = q
or_else (Some p) q = Some p

unfoldable pub place19 : Format → List ℕ → Option ℕ
place19 f t =
    pick (ltb text_most (length t)) (Some text_most)
    (or_else (first_bad (pieces t))
    (first_place f (numbers (pieces t)) (length t) (pieces t)))

unfoldable pub answer : Option ℕ → ℕ → ℕ → Filled
answer (Some p) k room = Err (BadText p)
answer None k room = pick (ltb room k) (Err (TooShort k)) (Ok k)

unfoldable pub reading_of : Format → List ℕ → ℕ → Filled
reading_of f t room = answer (place19 f t) (handed f (numbers (pieces t))) room

abbrev pub symbol_format : Format
symbol_format = record { least = 1; most = 1023; each = 3; more = 2 }

unfoldable pub input_of : Bool → Format → List ℕ → ℕ → Filled
input_of longer f t room = pick longer (Err (BadText text_most)) (reading_of f t room)

abbrev pub by_reading : {X : Type 0} → (List ℤ → X) → (Refusal → X) → Filled → List ℤ → X
by_reading g h (Ok k) ns = g (take k ns)
by_reading g h (Err f) ns = h f

abbrev pub input_gives : {X : Type 0} → Format → (room : ℕ) → (List ℤ → X) → (Refusal → X) → Bool → List ℕ → X
input_gives f room g h longer t = by_reading g h (input_of longer f t room) (numbers (pieces t))

abbrev pub vertex_count : ℤ → ℕ
vertex_count (pos n) = n
vertex_count (negsuc n) = 0

abbrev pub count_in : List ℤ → ℕ
count_in ns = vertex_count (get_or ns 0 (pos 0))
