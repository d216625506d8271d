-- `insn_eq` decides whether two instructions are equal.
use Rattle.std.proofs.Common.{◌≡◌, ◌≢◌, ℕ, ℤ, Bool, true, false, ◌⊎◌, inl, inr, List, ap}
use Rattle.std.proofs.lemmas.Bool.{cases_Bool, false≢true}
use Rattle.std.proofs.lemmas.Bool.Decides.{nat_tests, Decides-eqb, Decides-int_eq, Decides-and, Decides-like}
use Rattle.std.proofs.lemmas.Slice.Eq.{bytes_eq-Decides}
use Rattle.std.specs.Bool.{Decides}
use Rattle.std.specs.Cmp.{booleans_Decides}
use Rattle.dv_defs.specs.declared.code.Insn.{Insn}
use Rattle.dv_defs.specs.declared.code.Regs.{Regs}
use Rattle.dv_defs.specs.Spelling.{insn_eq, regs_eq}

same_regs : (c d : ℕ) (xs ys : List ℕ) (a b : Bool) → (c ≡ d) × (xs ≡ ys) × (a ≡ b) → record { count = c; first = xs; range = a } ≡ (let s : Regs = record { count = d; first = ys; range = b } in s)
same_regs c d xs ys a b h = λ i. record { count = h.0 i; first = h.1 i; range = h.2 i }

regs_eq-Decides : (r s : Regs) → Decides (regs_eq r s) (r ≡ s)
regs_eq-Decides r s =
    Decides-like (regs_eq r s) (λ h. same_regs _ _ _ _ _ _ (h.0, h.1.0, h.1.1)) (λ h. (ap (λ x. x.count) h, (ap (λ x. x.first) h, ap (λ x. x.range) h)))
    (Decides-and _ _ (Decides-eqb r.count s.count) (Decides-and _ _ (bytes_eq-Decides r.first s.first) (booleans_Decides r.range s.range)))

same_insn : (o p : ℕ) (r s : Regs) (x y a b : ℤ) (m n : ℕ) → (o ≡ p) × (r ≡ s) × (x ≡ y) × (a ≡ b) × (m ≡ n) → record { op = o; regs = r; lit = x; off = a; index = m } ≡ (let j : Insn = record { op = p; regs = s; lit = y; off = b; index = n } in j)
same_insn o p r s x y a b m n h = λ i. record { op = h.0 i; regs = h.1 i; lit = h.2 i; off = h.3 i; index = h.4 i }

insn_eq-Decides : (i j : Insn) → Decides (insn_eq i j) (i ≡ j)
unfolding insn_eq
insn_eq-Decides i j =
    Decides-like (insn_eq i j) (λ h. same_insn _ _ _ _ _ _ _ _ _ _ (h.0, h.1.0, h.1.1.0, h.1.1.1.0, h.1.1.1.1))
    (λ h. (ap (λ x. x.op) h, (ap (λ x. x.regs) h, (ap (λ x. x.lit) h, (ap (λ x. x.off) h, ap (λ x. x.index) h)))))
    (Decides-and _ _ (Decides-eqb i.op j.op) (Decides-and _ _ (regs_eq-Decides i.regs j.regs) (Decides-and _ _ (Decides-int_eq i.lit j.lit) (Decides-and _ _ (Decides-int_eq i.off j.off) (Decides-eqb i.index j.index)))))

-- for `grind`: the test with what it tells
pub insn_eq_tells : (i j : Insn) → ((insn_eq i j ≡ true) × (i ≡ j)) ⊎ ((insn_eq i j ≡ false) × (i ≢ j))
insn_eq_tells i j =
    elim (cases_Bool (insn_eq i j)) [
      | inl h ↦ inl (h, (insn_eq-Decides i j).0 h)
      | inr h ↦ inr (h, λ e. false≢true (cc ((insn_eq-Decides i j).1 e)))
    ]

-- for goals on the form of an instruction and on numbers that fit
pub ruleset form_tests = (nat_tests, insn_eq_tells)
