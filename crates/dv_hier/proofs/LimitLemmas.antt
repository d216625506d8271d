-- What classes have together with one more, as running sums.
use Rattle.std.proofs.Common.{◌≡◌, ◌+◌, ◌<◌, ℕ, suc, List, [], ◌∷◌, ◌++◌, length, take, drop, get_or, sum_by, Option, Some, None, refl, sym, ap, ◌∙◌, arith, option_map}
use Rattle.std.specs.Option.{option_or}
use Rattle.std.proofs.lemmas.List.{take_more, length-take-le}
use Rattle.std.proofs.lemmas.List.Sums.{sum_by_push}
use Rattle.std.proofs.lemmas.Option.{slice_get_read}
use Rattle.dv_defs.specs.declared.class.ClassDef.{ClassDef}
use Rattle.dv_defs.specs.declared.faults.Which.TheVariants as which
use Rattle.dv_defs.specs.declared.faults.LinkKind.{LinkKind}
use Rattle.dv_defs.specs.LinkFaults.{LinkTest, found, fault_at, tested, past, past_limits, limit_fault, cells}
use Rattle.dv_defs.specs.First.{first_below}
use Rattle.law_linking.proofs.First.{first_below_found, first_below_more}

-- a running sum after one more class
pub sum_more : (f : ClassDef → ℕ) (cs : List ClassDef) (i : ℕ) (c : ClassDef) (sum : ℕ) → i < length cs → c ≡ get_or cs i c → sum ≡ sum_by f (take i cs) → sum + f c ≡ sum_by f (take (i + 1) cs)
sum_more f cs i c sum within is summed =
    let pushed : sum_by f (take i cs ++ get_or cs i c ∷ []) ≡ sum_by f (take i cs) + f (get_or cs i c) = sum_by_push f (take i cs) (get_or cs i c) in
    (λ j. summed j + f (is j)) ∙ (sym pushed ∙ ap (sum_by f) (sym (take_more cs i c within)))

sum_after : (f : ClassDef → ℕ) (cs : List ClassDef) (i : ℕ) (c : ClassDef) (sum : ℕ) → i < length cs → c ≡ get_or cs i c → sum ≡ sum_by f (take i cs) → sum_by f (take (suc i) cs) ≡ sum + f c
sum_after f cs i c sum within is summed =
    ap (λ (n : ℕ). sum_by f (take n cs)) (let n : suc i ≡ i + 1 = omega arith in n) ∙ sym (sum_more f cs i c sum within is summed)

-- the limits of running sums
pub limits_by_sums : (cs : List ClassDef) (i : ℕ) (c : ClassDef) (classes methods fields total : ℕ) → i < length cs → c ≡ get_or cs i c → classes ≡ i → methods ≡ sum_by (λ (c : ClassDef). length c.methods) (take i cs) → fields ≡ sum_by (λ (c : ClassDef). length c.fields) (take i cs) → total ≡ sum_by cells (take i cs) → past_limits (take (suc i) cs) ≡ option_or (past 1024 (classes + 1) which.Classes) (option_or (past 16384 (methods + length c.methods) which.Methods) (option_or (past 16384 (fields + length c.fields) which.Fields) (past 33554432 (total + cells c) which.Cells)))
limits_by_sums cs i c classes methods fields total within is count methods_are fields_are cells_are =
    let counted : length (take (suc i) cs) ≡ classes + 1 = omega (arith, length-take-le (suc i) cs (omega arith)) in
    let of_methods = sum_after (λ (c : ClassDef). length c.methods) cs i c methods within is methods_are in
    let of_fields = sum_after (λ (c : ClassDef). length c.fields) cs i c fields within is fields_are in
    let of_cells = sum_after cells cs i c total within is cells_are in
    λ j. option_or (past 1024 (counted j) which.Classes) (option_or (past 16384 (of_methods j) which.Methods) (option_or (past 16384 (of_fields j) which.Fields) (past 33554432 (of_cells j) which.Cells)))

-- the test of a class
pub limit_at : (cs : List ClassDef) (i : ℕ) (c : ClassDef) (o : Option LinkKind) → i < length cs → c ≡ get_or cs i c → past_limits (take (suc i) cs) ≡ o → fault_at (λ (j : ℕ) (d : ClassDef). past_limits (take (suc j) cs)) cs i ≡ option_map (found c.name) o
limit_at cs i c o within is e =
    ap (tested (λ (j : ℕ) (d : ClassDef). past_limits (take (suc j) cs)) i) (slice_get_read cs (length cs) i c refl within is) ∙ ap (option_map (found c.name)) e

-- whether the classes up to this one pass a limit
abbrev pub past_at : List ClassDef → LinkTest
past_at cs = λ i c. past_limits (take (suc i) cs)

pub limit_found : (cs : List ClassDef) (boot : ℕ) (program : List ClassDef) (i : ℕ) (c : ClassDef) (k : LinkKind) → program ≡ drop boot cs → first_below (fault_at (past_at program) program) i ≡ None → i < length program → c ≡ get_or program i c → past_limits (take (suc i) program) ≡ Some k → limit_fault cs boot ≡ Some (found c.name k)
unfolding limit_fault
limit_found cs boot program i c k of before within is past =
    ap (λ (cs : List ClassDef). first_below (fault_at (past_at cs) cs) (length cs)) (sym of) ∙
    first_below_found (fault_at (past_at program) program) (length program) i (found c.name k) before (limit_at program i c (Some k) within is past) within

pub limit_none : (cs : List ClassDef) (boot : ℕ) (program : List ClassDef) (i : ℕ) → program ≡ drop boot cs → first_below (fault_at (past_at program) program) i ≡ None → i ≡ length program → limit_fault cs boot ≡ None
unfolding limit_fault
limit_none cs boot program i of before all =
    ap (λ (cs : List ClassDef). first_below (fault_at (past_at cs) cs) (length cs)) (sym of) ∙
    (ap (first_below (fault_at (past_at program) program)) (sym all) ∙ before)

pub limit_more : (program : List ClassDef) (i : ℕ) (c : ClassDef) → first_below (fault_at (past_at program) program) i ≡ None → i < length program → c ≡ get_or program i c → past_limits (take (suc i) program) ≡ None → first_below (fault_at (past_at program) program) (i + 1) ≡ None
limit_more program i c before within is none =
    first_below_more (fault_at (past_at program) program) i before (limit_at program i c None within is none)
