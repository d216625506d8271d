-- The lines of faults, told in two parts.
use Rattle.std.proofs.Common.{◌≡◌, ◌++◌, ◌∙◌, ◌-◌, ◌≤◌, ℕ, List, [], ◌∷◌, ap, append_assoc, arith, length, length-append, refl, sym, take}
use Rattle.std.specs.Prelude.{codes}
use Rattle.std.specs.List.{flat_map}
use Rattle.dv_defs.specs.declared.faults.Fault.{Fault}
use Rattle.dv_defs.specs.Images.{Image}
use Rattle.dv_defs.specs.Pools.{method_at}
use Rattle.dv_console.specs.Faults.{fault_line_of, fault_text, signature}
use Rattle.std.proofs.lemmas.List.{flat_map_more}
use Rattle.dv_top.specs.declared.printed.MethodFaults.{MethodFaults}
use Rattle.dv_top.specs.Printed.{fault_head, fault_tail, method_lines, printed_lines}

-- a line is its two parts
pub in_two : (image : Image) (f : Fault) → fault_text image f ≡ fault_head image f ++ fault_tail f
unfolding fault_line_of
in_two image f = sym (append_assoc (codes "#fault ") (signature image (method_at image f.method.0)) (fault_tail f))

pub has_seven : (f : Fault) → 7 ≤ length (fault_line_of [] f)
unfolding fault_line_of
has_seven f = omega arith

take_front : (a b : List ℕ) → take (length a) (a ++ b) ≡ a
take_front [] b = refl
take_front (x ∷ xs) b = ap (λ ys. x ∷ ys) (take_front xs b)

-- without its second part it is the first
pub front_of : (image : Image) (f : Fault) → take (length (fault_text image f) - length (fault_tail f)) (fault_text image f) ≡ fault_head image f
front_of image f =
    let size : length (fault_text image f) - length (fault_tail f) ≡ length (fault_head image f) =
    omega (arith, ap length (in_two image f), length-append (fault_head image f) (fault_tail f)) in
    ap (λ n. take n (fault_text image f)) size ∙ (ap (take (length (fault_head image f))) (in_two image f) ∙ take_front (fault_head image f) (fault_tail f))

pub tail_within : (image : Image) (f : Fault) → length (fault_tail f) ≤ length (fault_text image f)
tail_within image f = omega (arith, ap length (in_two image f), length-append (fault_head image f) (fault_tail f))

-- one more line of a method
pub line_added : (ms : List MethodFaults) (m n : MethodFaults) (head tail : List ℕ) → n.head ≡ m.head → n.tails.items ≡ m.tails.items ++ tail ∷ [] → m.head ≡ head
    → printed_lines (ms ++ n ∷ []) ≡ printed_lines ms ++ (method_lines m ++ (head ++ tail))
line_added ms m n head tail same more is =
    let lines : method_lines n ≡ method_lines m ++ (head ++ tail) =
    ap (λ h. flat_map (λ t. h ++ t) n.tails.items) (same ∙ is) ∙
    (ap (flat_map (λ t. head ++ t)) more ∙
    (sym (flat_map_more (λ t. head ++ t) [] m.tails.items tail) ∙ ap (λ h. flat_map (λ t. h ++ t) m.tails.items ++ (head ++ tail)) (sym is))) in
    sym (flat_map_more method_lines [] ms n) ∙ ap (λ l. printed_lines ms ++ l) lines

-- a line behind those of the last method
pub line_behind : (ms rest news : List MethodFaults) (m : MethodFaults) (text head tail : List ℕ) → ms ≡ rest ++ m ∷ [] → text ≡ head ++ tail
    → printed_lines news ≡ printed_lines rest ++ (method_lines m ++ (head ++ tail)) → printed_lines news ≡ printed_lines ms ++ text
line_behind ms rest news m text head tail last is more =
    let before : printed_lines ms ≡ printed_lines rest ++ method_lines m = ap printed_lines last ∙ sym (flat_map_more method_lines [] rest m) in
    more ∙ (sym (append_assoc (printed_lines rest) (method_lines m) (head ++ tail)) ∙ (ap (λ l. l ++ (head ++ tail)) (sym before) ∙ ap (λ l. printed_lines ms ++ l) (sym is)))
