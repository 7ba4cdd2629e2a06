-- What the refusal of a tower means, or that there is none (`tower_of`, `TowerMeans`): `tower_means`.
-- Why: the checks before 26 pass exactly where all entries have symbols and no name is at fault; then a claim holds exactly where `contained` says so.
-- Assumes nothing.
use Rattle.std.specs.Prelude.{Ok, Err}
use mathlib.Core.Path.{◌≡◌, refl, sym, ◌∙◌, ap}
use mathlib.Core.Logic.{◌⊎◌, inl, inr}
use mathlib.Core.Bool.{Bool, true, false, not}
use mathlib.Core.List.{List}
use Prim.Native.Nat.{ℕ, ◌≤◌, ◌<◌}
use native.Mathlib.Omega.{arith}
use lib.Dec.{ltb, eqb}
use borrow.Author.Tests.{ltb-true, ltb-false, le-ltb, eqb-true, eq-eqb, not-true, not-false}
use lib.IntN.{ℤ, pos, negsuc}
use Rattle.basics.specs.Choice.{pick}
use Rattle.basics.specs.Count.{first}
use Rattle.basics.proofs.Choice.{pick_true, clash}
use Rattle.basics.proofs.Count.{Clear, Found, found}
use Rattle.call.specs.Refusal.{◌or_else◌, answer_number, answer_place, refusal_number, Checked, refusal_place}
use Rattle.call.specs.declared.refusal.Refusal.TheVariants.{TooShort, NotListedBefore, FalseClaim}
use Rattle.call.specs.declared.refusal.Refusal.{Refusal}
use Rattle.call.proofs.Apart.{refused_accepted}
use Rattle.call.proofs.Answers.{both_pass, pass_both}
use Rattle.call.proofs.Numbered.{Among, among_first}
use Rattle.call.specs.Space.{work_length}
use Rattle.symbol.specs.Check.{refuse, refuse_at}
use Rattle.symbol.proofs.Accepted.{passes, pass, passes_at, pass_at, among_refuse}
use Rattle.symbol.proofs.Order.{accept_at}
use Rattle.pairing.specs.Inner.Admitted.{work_check}
use Rattle.containment.proofs.TwoSymbols.{containment}
use Rattle.containment.proofs.InclusionMeans.{does_contain, contains_not}
use Rattle.towers.specs.Tower.{named_at, vertices_at, table_at, symbols_check, listed_before, unlisted, named_check, claim_holds, claim_fails, claims_check}
use Rattle.towers.specs.Meaning.{AreSymbols, NameListed, ClaimTrue, TrueTower, FirstUnlisted, FirstFalse}
use Rattle.towers.specs.Answer.{count_check}
use Rattle.towers.proofs.Checks.{symbols_accepted, symbols_among, names_listed, listed_names}

-- what comes before the work space, and the whole
abbrev pub entries_check : ℕ → List ℤ → Checked
entries_check n t = count_check n or_else symbols_check n t n or_else named_check n t

abbrev pub tower_of : ℕ → List ℤ → (work : ℕ) → Checked
tower_of n t work = entries_check n t or_else pick (eqb n 0) (Ok tt) (work_check work or_else claims_check n t)

pub record TowerMeans (n : ℕ) (t : List ℤ) (work : ℕ) (r : Checked) : Type 0 where
  pub few : r ≡ Ok tt → n ≤ 64
  pub passes : r ≡ Ok tt → TrueTower n t
  pub true_passes : n ≤ 64 → TrueTower n t → (n ≡ 0) ⊎ (work_length ≤ work) → r ≡ Ok tt
  pub not_listed : (e : ℕ) → r ≡ Err (NotListedBefore e) → FirstUnlisted n t e
  pub false_claim_is : (e : ℕ) → r ≡ Err (FalseClaim e) → FirstFalse n t e

-- ---- which check refused

-- a refusal with a number that the first check doesn't give is the second's
passed_on : (low high : ℕ) (c d : Checked) (f : Refusal) → Among low high c → high < refusal_number f → (c or_else d) ≡ Err f → (c ≡ Ok tt) × (d ≡ Err f)
passed_on low high (Ok tt) d f a h e = (refl, e)
passed_on low high (Err g) d f a h e =
    let z : refusal_number g ≡ (refusal_number f) = ap (λ (x : Checked). answer_number x) e in
    absurd (omega (arith, a.1))

refused_by : (b : Bool) (f g : Refusal) → refuse b f ≡ Err g → (b ≡ true) × ◌≡◌ {A = Checked} (Err f) (Err g)
refused_by true f g e = (refl, e)
refused_by false f g e = refused_accepted (sym e)

-- it is given at the first that passes the test
refused_first : (name : ℕ → Refusal) → ((i : ℕ) → refusal_place (name i) ≡ i) → (test : ℕ → Bool) (n e : ℕ)
    → refuse_at (first test n) n name ≡ Err (name e) → (first test n ≡ e) × Found test n
refused_first name at test n e p =
    let k = refused_by (ltb (first test n) n) (name (first test n)) (name e) p in
    (sym (at (first test n)) ∙ ap (λ (x : Checked). answer_place x) k.1 ∙ at e, found test n (ltb-true (first test n) n k.0))

module _ (n : ℕ) (t : List ℤ) where
  -- ---- 25

  all_listed : Clear (unlisted t) n → (e : ℕ) → e < n → NameListed t e
  all_listed c e h = names_listed t e (not-false (listed_before (named_at t e) e) (c.none e h))

  listed_clear : ((e : ℕ) → e < n → NameListed t e) → Clear (unlisted t) n
  listed_clear l = record { none = λ e h. ap not (listed_names t e (l e h)) }

  pub names_passed : (k : ℕ) → k ≡ first (unlisted t) n → n ≤ k → (e : ℕ) → e < n → NameListed t e
  names_passed k is l = all_listed (passes_at (unlisted t) n NotListedBefore (accept_at (unlisted t) n k NotListedBefore is l))

  -- ---- 26

  claim_true : AreSymbols n t → (e : ℕ) → e < n → NameListed t e → claim_holds n t e (named_at t e) ≡ true → ClaimTrue n t e
  claim_true s e h l p j q =
      let k : claim_holds n t e (pos j) ≡ true = ap (claim_holds n t e) (sym q) ∙ p in
      does_contain (vertices_at t j) (table_at n t j) (vertices_at t e) (table_at n t e) (s j (below l)) (s e h) k
    where
      below : NameListed t e → j < n
      below (inl z) = absurd (apart (sym q ∙ z))
        where
          apart : pos j ≡ negsuc 0 → ⊥
          apart y = let w : ◌≡◌ {A = ℕ} 0 1 = cc in omega arith
      below (inr m) = let z : j ≡ m.named = same (sym q ∙ m.is) in omega (arith, m.before, h)
        where
          same : pos j ≡ pos m.named → j ≡ m.named
          same y = cc

  true_claim : (e : ℕ) → AreSymbols n t → ClaimTrue n t e → claim_holds n t e (named_at t e) ≡ true
  true_claim e s c = go (named_at t e) refl
    where
      go : (x : ℤ) → named_at t e ≡ x → claim_holds n t e x ≡ true
      go (pos j) q = let k = c j q in (containment (vertices_at t e) (table_at n t e) (vertices_at t j) (table_at n t j) k.other k.one).decided.1 k.group
      go (negsuc k) q = refl

  claims_true : AreSymbols n t → ((e : ℕ) → e < n → NameListed t e) → (k : ℕ) → k ≤ n → Clear (claim_fails n t) k → (e : ℕ) → e < k → ClaimTrue n t e
  claims_true s l k m c e h =
      claim_true s e (omega arith) (l e (omega arith)) (not-false (claim_holds n t e (named_at t e)) (c.none e h))

  -- the named entry of a claim that fails
  false_at : (e : ℕ) → e < n → AreSymbols n t → ((d : ℕ) → d < n → NameListed t d) → ((d : ℕ) → d < e → ClaimTrue n t d)
      → claim_holds n t e (named_at t e) ≡ false → FirstFalse n t e
  false_at e h s l c p = go (l e h)
    where
      go : NameListed t e → FirstFalse n t e
      go (inl q) = clash (ap (claim_holds n t e) q) p
      go (inr m) = record {
        below = h;
        symbols = s;
        listed = l;
        earlier = c;
        named = m.named;
        is = m.is;
        itself = contains_not (vertices_at t m.named) (table_at n t m.named) (vertices_at t e) (table_at n t e) (s m.named (omega (arith, m.before, h)))
            (s e h)
            (sym (ap (claim_holds n t e) m.is) ∙ p);
      }

  -- ---- the checks before the work space

  abbrev behind : Checked
  behind = symbols_check n t n or_else named_check n t

  pub entries_passed : entries_check n t ≡ Ok tt → (n ≤ 64) × AreSymbols n t × ((e : ℕ) → e < n → NameListed t e)
  entries_passed e =
      let a = both_pass (refuse (ltb 64 n) (TooShort 64)) behind e in
      let b = both_pass (symbols_check n t n) (named_check n t) a.1 in (
        ltb-false 64 n (passes (ltb 64 n) (TooShort 64) a.0),
        (symbols_accepted n t).0 b.0,
        all_listed (passes_at (unlisted t) n NotListedBefore b.1),
      )

  entries_pass : n ≤ 64 → AreSymbols n t → ((e : ℕ) → e < n → NameListed t e) → entries_check n t ≡ Ok tt
  entries_pass h s l =
      pass_both (refuse (ltb 64 n) (TooShort 64)) behind (pass (ltb 64 n) (TooShort 64) (le-ltb 64 n h))
      (pass_both (symbols_check n t n) (named_check n t) ((symbols_accepted n t).1 s) (pass_at (unlisted t) n NotListedBefore (listed_clear l)))

  pub entries_among : Among 1 25 (entries_check n t)
  entries_among =
      among_first 1 25 (refuse (ltb 64 n) (TooShort 64)) behind (among_refuse 1 25 (ltb 64 n) (TooShort 64) (omega arith) (omega arith))
      (among_first 1 25 (symbols_check n t n) (named_check n t) (wider (symbols_check n t n) (symbols_among n t n))
      (among_refuse 1 25 (ltb (first (unlisted t) n) n) (NotListedBefore (first (unlisted t) n)) (omega arith) (omega arith)))
    where
      wider : (c : Checked) → Among 1 7 c → Among 1 25 c
      wider (Ok tt) a = tt
      wider (Err f) a = (a.0, omega (arith, a.1))

module _ (n : ℕ) (t : List ℤ) (work : ℕ) where
  abbrev later : Checked
  later = work_check work or_else claims_check n t

  -- past the checks before the work space
  later_passed : AreSymbols n t → ((e : ℕ) → e < n → NameListed t e) → (b : Bool) → eqb n 0 ≡ b → pick b (Ok tt) later ≡ Ok tt
      → (e : ℕ) → e < n → ClaimTrue n t e
  later_passed s l true z p e h = let w = eqb-true n 0 z in absurd (omega arith)
  later_passed s l false z p e h =
      let a = both_pass (work_check work) (claims_check n t) p in
      claims_true n t s l n (omega arith) (passes_at (claim_fails n t) n FalseClaim a.1) e h

  later_pass : AreSymbols n t → ((e : ℕ) → e < n → ClaimTrue n t e) → (n ≡ 0) ⊎ (work_length ≤ work) → pick (eqb n 0) (Ok tt) later ≡ Ok tt
  later_pass s c (inl z) = pick_true (eqb n 0) (Ok tt) later (eq-eqb n 0 z)
  later_pass s c (inr h) = go (eqb n 0)
    where
      passing : later ≡ Ok tt
      passing = pass_both (work_check work) (claims_check n t) (pass (ltb work work_length) (TooShort work_length) (le-ltb work work_length h))
          (pass_at (claim_fails n t) n FalseClaim (record { none = λ e l. ap not (true_claim n t e s (c e l)) }))

      go : (b : Bool) → pick b (Ok tt) later ≡ Ok tt
      go true = refl
      go false = passing

  no_other : (b : Bool) (f : Refusal) → pick b (Ok tt) later ≡ Err f → later ≡ Err f
  no_other true f e = refused_accepted (sym e)
  no_other false f e = e

  later_among : (b : Bool) (f : Refusal) → refusal_number f ≡ 25 → pick b (Ok tt) later ≡ Err f → ⊥
  later_among b f z e =
      let k = passed_on 1 11 (work_check work) (claims_check n t) f (among_refuse 1 11 (ltb work work_length) (TooShort work_length) (omega arith) (omega arith))
      (omega arith) (no_other b f e) in
      let i = first (claim_fails n t) n in
      let g = refused_by (ltb i n) (FalseClaim i) f k.1 in
      let y : 26 ≡ (refusal_number f) = ap (λ (x : Checked). answer_number x) g.1 in
      omega arith

  unlisted_first : (e : ℕ) → tower_of n t work ≡ Err (NotListedBefore e) → FirstUnlisted n t e
  unlisted_first e p = go (entries_check n t) refl p
    where
      at : entries_check n t ≡ Err (NotListedBefore e) → FirstUnlisted n t e
      at q =
          let a = passed_on 1 11 (refuse (ltb 64 n) (TooShort 64)) (behind n t) (NotListedBefore e)
          (among_refuse 1 11 (ltb 64 n) (TooShort 64) (omega arith) (omega arith))
          (omega arith) q in
          let b = passed_on 1 7 (symbols_check n t n) (named_check n t) (NotListedBefore e) (symbols_among n t n) (omega arith) a.1 in
          let f = refused_first NotListedBefore (λ i. refl) (unlisted t) n e b.1 in
          let z = f.0 in
          let c : Clear (unlisted t) e = rw z at f.1.clear in
          let y : unlisted t e ≡ true = ap (unlisted t) (sym z) ∙ f.1.passes in
          record {
            below = omega (arith, f.1.below, z);
            symbols = (symbols_accepted n t).0 b.0;
            earlier = λ d h. names_listed t d (not-false (listed_before (named_at t d) d) (c.none d h));
            itself = λ l. clash (listed_names t e l) (not-true (listed_before (named_at t e) e) y);
          }

      go : (c : Checked) → entries_check n t ≡ c → (c or_else pick (eqb n 0) (Ok tt) later) ≡ Err (NotListedBefore e) → FirstUnlisted n t e
      go (Ok tt) q r = absurd (later_among (eqb n 0) (NotListedBefore e) refl r)
      go (Err f) q r = at (q ∙ r)

  false_first : (e : ℕ) → tower_of n t work ≡ Err (FalseClaim e) → FirstFalse n t e
  false_first e p =
      let a = passed_on 1 25 (entries_check n t) (pick (eqb n 0) (Ok tt) later) (FalseClaim e) (entries_among n t) (omega arith) p in
      let b = passed_on 1 11 (work_check work) (claims_check n t) (FalseClaim e)
      (among_refuse 1 11 (ltb work work_length) (TooShort work_length) (omega arith) (omega arith)) (omega arith) (no_other (eqb n 0) (FalseClaim e) a.1) in
      let f = refused_first FalseClaim (λ i. refl) (claim_fails n t) n e b.1 in
      let z = f.0 in
      let k = entries_passed n t a.0 in
      let c : Clear (claim_fails n t) e = rw z at f.1.clear in
      let y : claim_fails n t e ≡ true = ap (claim_fails n t) (sym z) ∙ f.1.passes in
      let h : e < n = omega (arith, f.1.below, z) in
      false_at n t e h k.1 k.2 (claims_true n t k.1 k.2 e (omega arith) c) (not-true (claim_holds n t e (named_at t e)) y)

  pub tower_means : TowerMeans n t work (tower_of n t work)
  tower_means = record {
    few = λ p. (entries_passed n t (both_pass (entries_check n t) (pick (eqb n 0) (Ok tt) later) p).0).0;
    passes = λ p.
        let a = both_pass (entries_check n t) (pick (eqb n 0) (Ok tt) later) p in
        let k = entries_passed n t a.0 in
        record { symbols = k.1; listed = k.2; claims = later_passed k.1 k.2 (eqb n 0) refl a.1 };
    true_passes = λ h s w.
        pass_both (entries_check n t) (pick (eqb n 0) (Ok tt) later) (entries_pass n t h s.symbols s.listed) (later_pass s.symbols s.claims w);
    not_listed = unlisted_first;
    false_claim_is = false_first;
  }
