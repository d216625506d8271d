use Rattle.std.proofs.Common.{◌≡◌, ◌++◌, ◌-◌, ◌^◌, ℕ, List, [], length, false, replicate, append-nil, Option, Some, IfSome, ap, subst, ◌∙◌, rules}
use Rattle.std.specs.Fmt.{padded_integral, format_spec, char_count, digits, styled_digits_output}
use Rattle.std.specs.Prelude.{option_map}
use Rattle.std.proofs.Math.Nat.{sub-zero}
use Rattle.dv_console.specs.Faults.{address_text}
use Rattle.dv_console.proofs.faults.add_address.Goals as goal

-- zeros up to four digits
four_digits : (ds : List ℕ) → padded_integral (format_spec 32 0 4 4 (2 ^ 64 - 1)) false [] ds ≡ replicate (4 - length ds) 48 ++ ds
unfolding padded_integral char_count
four_digits ds = simp (append-nil, sub-zero)

told : (output : Option (List ℕ)) (bs text : List ℕ) → output ≡ Some bs → IfSome output (λ x. text ≡ x) → text ≡ bs
told output bs text e h = let P : Option (List ℕ) → Type 0 = λ o. IfSome o (λ x. text ≡ x) in subst P e h

pub returns : goal.returns
returns c =
    let address = digits 16 false c.args.address in
    let spec = format_spec 32 0 4 4 (2 ^ 64 - 1) in
    let styled : styled_digits_output c.in_radix.result c.laid_out.result ≡ Some (padded_integral spec false [] address) =
    ap (styled_digits_output c.in_radix.result) c.laid_out.ensures ∙ ap (option_map (padded_integral spec false [])) c.in_radix.ensures in
    let text : c.as_bytes.result.now ≡ address_text c.args.address =
    c.as_bytes.ensures.value ∙ told _ _ _ styled c.in_ok-text.ensures.ok ∙ four_digits address in
    rw (← text) (search rules)
