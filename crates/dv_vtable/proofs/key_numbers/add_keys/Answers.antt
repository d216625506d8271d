use Rattle.std.proofs.Common.{◌≡◌, ◌+◌, ◌++◌, ◌∷◌, [], List, Option, ℕ, length, take, Some, None, cond, refl, sym, ap, subst, ◌∙◌, arith}
use Rattle.std.specs.Prelude.{slice_get}
use Rattle.std.proofs.lemmas.List.{length_push}
use Rattle.std.proofs.lemmas.Option.{slice_get_read}
use Rattle.dv_vtable.specs.Chains.{key_in, is_in_tables}
use Rattle.dv_vtable.specs.Firsts.{AreFirst, AreNumbered}
use Rattle.dv_vtable.specs.Numbered.{key_number}
use Rattle.dv_vtable.proofs.FirstLaws.{numbered_next}
use Rattle.dv_vtable.proofs.key_numbers.add_keys.Goals as goal

pub loop-method-preserved : goal.loop-method-preserved
loop-method-preserved c =
    let ms = c.args.methods.now in
    let i = c.loop-method.method-index in
    let m = c.method-item.result in
    let ks = c.loop-method.keys.items in
    let more : length c.push-in-loop-method.new.self.items ≡ length ks + 1 =
    ap (λ (xs : List (Option ℕ)). length xs) c.in_ok-push-2.ensures.items ∙ length_push ks c.in_tables.result in
    record {
      count = omega (arith, more, c.loop-method.invariant.count);
      numbered = λ all stand before.
          let was : AreNumbered all c.loop-method.known c.loop-method.numbers.items ks = c.loop-method.invariant.numbered all stand before in
          let at : slice_get all (length ks) ≡ Some m =
          ap (slice_get all) c.loop-method.invariant.count ∙ stand i m (slice_get_read ms (length ms) i m refl c.loop-method-test.true c.method-item.is) in
          let len : length ks ≡ c.len.result = sym (c.len.ensures ∙ c.loop-method.keys.ok.0) in
          let here : slice_get all c.len.result ≡ Some m = ap (slice_get all) (sym len) ∙ at in
          let first : AreFirst (take c.len.result all) c.loop-method.known = subst (λ n. AreFirst (take n all) c.loop-method.known) len was.first in
          let number : c.in_ok-number.number ≡ key_number all (key_in m) = c.in_ok-number.ensures.number all here first in
          let known : AreFirst (take (length ks + 1) all) c.number_of.new.known =
          subst (λ n. AreFirst (take (n + 1) all) c.number_of.new.known) (sym len) (c.in_ok-number.ensures.known all here first) in
          let numbers = c.in_ok-push.ensures.items ∙ ap (λ n. c.loop-method.numbers.items ++ n ∷ []) number in
          let pushed = c.in_ok-push-2.ensures.items ∙ ap (λ o. ks ++ o ∷ []) (c.in_tables.ensures ∙ ap (λ n. cond (is_in_tables m) (Some n) None) number) in
          numbered_next all c.number_of.new.known c.loop-method.numbers.items c.push.new.self.items ks c.push-in-loop-method.new.self.items m at known was.numbers was.keys numbers pushed;
    }
