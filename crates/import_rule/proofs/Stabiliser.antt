-- A family of known frames, closed under the letters up to a subgroup: if the only known frame of point 0 is in the subgroup, then the
-- subgroup is the stabiliser of point 0 (Schreier's argument).
--
-- In order: members of H (`in_one`, `in_gen`, `in_inv`, `in_mul`, `in-≈`); `Reach`: a known frame, up to H; generators that fix 0 make
-- H fix 0 (`in_leads`); the theorem (`stabiliser`).
-- Assumes nothing.
use mathlib.Core.Path.{◌≡◌, refl, sym, ◌∙◌, ap}
use mathlib.Core.Logic.{◌⊎◌, inl, inr, ◌↔◌}
use mathlib.Core.List.{List, [], ◌∷◌, ◌++◌}
use Prim.Native.Nat.{ℕ, zero, suc, ◌<◌, ◌≤◌}
use native.Mathlib.Omega.{arith}
use lib.ListN.{length, get_or}
use lib.IntN.{ℤ, pos, negsuc}
use Rattle.matrix.specs.Matrix.{Mat, ◌⊗◌, 𝟙, adj, det, ◌≈◌}
use Rattle.matrix.specs.Words.{Letter, letter, value}
use Rattle.matrix.specs.Action.{at}
use Rattle.matrix.specs.Euclid as euclid
use Rattle.matrix.proofs.Matrix.{⊗-assoc, ⊗-idl, ⊗-idr, ≈-sym, ◌∙≈◌, ≈-left, ≈-right}
use Rattle.matrix.proofs.Existence.{existence}
use Rattle.pairing.specs.Subgroup.{IsLetter, IsWord, letter_of, value_of, InH}
use Rattle.import_rule.proofs.Lead.{Turning, Leads, leads_one, leads-≈, leads_𝟙, leads_back, leads_fix}

-- ---- members of H

module _ (gens : List Mat) where
  pub in_one : InH gens 𝟙
  in_one = record { word = []; letters = tt; is = inl refl }

  pub in_gen : (j : ℕ) → j < length gens → InH gens (get_or gens j 𝟙)
  in_gen j h = record { word = pos (suc j) ∷ []; letters = ((omega arith, omega arith), tt); is = inl (sym (⊗-idr (get_or gens j 𝟙))) }

  pub in_inv : (j : ℕ) → j < length gens → InH gens (adj (get_or gens j 𝟙))
  in_inv j h = record { word = negsuc j ∷ []; letters = ((omega arith, omega arith), tt); is = inl (sym (⊗-idr (adj (get_or gens j 𝟙)))) }

  word-++ : (u w : List ℤ) → value_of gens (u ++ w) ≡ value_of gens u ⊗ value_of gens w
  word-++ [] w = sym (⊗-idl (value_of gens w))
  word-++ (z ∷ u) w = ap (λ (m : Mat). letter_of gens z ⊗ m) (word-++ u w) ∙ sym (⊗-assoc (letter_of gens z) (value_of gens u) (value_of gens w))

  letters-++ : (n : ℕ) (u w : List ℤ) → IsWord n u → IsWord n w → IsWord n (u ++ w)
  letters-++ n [] w a b = b
  letters-++ n (z ∷ u) w a b = (a.0, letters-++ n u w a.1 b)

  pub in_mul : {g h : Mat} → InH gens g → InH gens h → InH gens (g ⊗ h)
  in_mul {g} {h} p q = record {
    word = p.word ++ q.word;
    letters = letters-++ (length gens) p.word q.word p.letters q.letters;
    is = ≈-right h p.is ∙≈ ≈-left (value_of gens p.word) q.is ∙≈ inl (sym (word-++ p.word q.word));
  }

  pub in-≈ : {g h : Mat} → h ≈ g → InH gens g → InH gens h
  in-≈ e p = record { word = p.word; letters = p.letters; is = e ∙≈ p.is }

  -- ---- known frames

  -- m is a known frame up to H
  pub record Reach (Known : Mat → ℕ → Type 0) (m : Mat) : Type 0 where
    pub by : Mat
    pub frame : Mat
    pub pt : ℕ
    pub in_h : InH gens by
    pub known : Known frame pt
    pub is : m ≈ by ⊗ frame

  module _ (σ κ : ℕ → ℕ) (n : ℕ) (T : Turning σ κ n) (fix : (j : ℕ) → j < length gens → Leads σ κ (get_or gens j 𝟙) 0) where
    letter_leads : (z : ℤ) → IsLetter (length gens) z → Leads σ κ (letter_of gens z) 0
    letter_leads (pos zero) h = let k = h.0 in absurd (omega arith)
    letter_leads (pos (suc j)) h = fix j (let k = h.1 in omega arith)
    letter_leads (negsuc j) h =
        leads-≈ σ κ n T (inl (sym (⊗-idl (adj (get_or gens j 𝟙))))) (leads_back σ κ n T (leads_𝟙 σ κ n T) (fix j (let k = h.1 in omega arith)))

    word_leads : (w : List ℤ) → IsWord (length gens) w → Leads σ κ (value_of gens w) 0
    word_leads [] a = leads_𝟙 σ κ n T
    word_leads (z ∷ w) a = leads_fix σ κ n T (letter_leads z a.0) (word_leads w a.1)

    pub in_leads : {m : Mat} → InH gens m → Leads σ κ m 0
    in_leads p = leads-≈ σ κ n T p.is (word_leads p.word p.letters)

    module _ (Known : Mat → ℕ → Type 0)
        (steps : (l : Letter) (m : Mat) (x : ℕ) → Known m x → Reach Known (m ⊗ letter l))
        (leads : (m : Mat) (x : ℕ) → Known m x → Leads σ κ m x)
        (one : Known 𝟙 0)
        (only : (m : Mat) → Known m 0 → InH gens m) where
      walk : (u : List Letter) (m : Mat) (x : ℕ) → Known m x → Reach Known (m ⊗ value u)
      walk [] m x k = record { by = 𝟙; frame = m; pt = x; in_h = in_one; known = k; is = inl (⊗-idr m ∙ sym (⊗-idl m)) }
      walk (l ∷ u) m x k =
          let a = steps l m x k in
          let b = walk u a.frame a.pt a.known in
          record {
            by = a.by ⊗ b.by;
            frame = b.frame;
            pt = b.pt;
            in_h = in_mul a.in_h b.in_h;
            known = b.known;
            is = inl (sym (⊗-assoc m (letter l) (value u))) ∙≈ ≈-right (value u) a.is ∙≈ inl (⊗-assoc a.by a.frame (value u)) ∙≈ ≈-left a.by
                b.is ∙≈ inl (sym (⊗-assoc a.by b.by b.frame));
          }

      -- THE SUBGROUP IS THE STABILISER OF 0
      pub stabiliser : (m : Mat) → det m ≡ pos 1 → InH gens m ↔ (at σ κ 0 m ≡ 0)
      stabiliser m d = ((λ h. (in_leads h).is), back)
        where
          back : at σ κ 0 m ≡ 0 → InH gens m
          back e =
              let u = euclid.word_of m in
              let r = walk u 𝟙 0 one in
              let q : m ≈ r.by ⊗ r.frame = ≈-sym (existence m d).1 ∙≈ inl (sym (⊗-idl (value u))) ∙≈ r.is in
              let p : Leads σ κ m 0 = record { unit = d; is = e } in
              let z : r.pt ≡ 0 = leads_one σ κ n T (leads_fix σ κ n T (in_leads r.in_h) (leads r.frame r.pt r.known))
              (leads-≈ σ κ n T (≈-sym q) p) in
              in-≈ q (in_mul r.in_h (only r.frame (rw z at r.known)))
