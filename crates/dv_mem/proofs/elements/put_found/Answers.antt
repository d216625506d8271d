use Rattle.std.proofs.Common.{◌≡◌, ◌∙◌, length, true, false, ap, refl, subst, sym}
use Rattle.dv_defs.specs.declared.run.Named.TheVariants as named
use Rattle.dv_defs.specs.declared.run.Next.TheVariants as next
use Rattle.dv_typing.specs.Statics.{is_of_suffix}
use Rattle.dv_defs.specs.Types.{component}
use Rattle.dv_machine.specs.State.{Did}
use Rattle.dv_units.specs.Tables.{standard_suffix}
use Rattle.dv_words.specs.Local.{reg_word}
use Rattle.dv_words.specs.Mem.{WordLeft, is_storable, is_wide, narrowed_all, words_in}
use Rattle.dv_mem.specs.Elements.{width_of}
use Rattle.dv_mem.specs.Operands.{AreWithin}
use Rattle.dv_mem.specs.Tops.{Answers, seen, top_frame}
use Rattle.dv_mem.specs.Values.{listed}
use Rattle.dv_mem.proofs.Arrays.{count_in, refused_store, taken_store}
use Rattle.dv_mem.proofs.elements.put_found.Goals as goal

pub returns-then-not-is_storable : goal.returns-then-not-is_storable
returns-then-not-is_storable c is =
    let here = seen c.args.image.now c.args.stack.now c.args.heap.now c.args.next in
    let suffix = standard_suffix c.args.suffix in
    let test = c.is_storable.ensures (is_of_suffix suffix) (top_frame c.args.stack.now) c.args.next is in
    let no : is_storable here c.args.found.array suffix (reg_word (top_frame c.args.stack.now) c.args.a) ≡ false =
    sym (ap (is_storable here c.args.found.array suffix) c.word.ensures) ∙ sym test ∙ c.if-not-is_storable.true in
    let P : Did WordLeft → Type 0 = λ d. Answers (next.Throw named.ArrayStore) d c.args.stack.now c.args.heap.now c.args.stack.now c.args.heap.now in
    subst P (sym (refused_store here c.args.found.array suffix c.args.a c.args.found.slot no)) (refl, refl, refl)

pub store-requires-clause-there : goal.store-requires-clause-there
store-requires-clause-there c =
    let suffix = standard_suffix c.args.suffix in
    let count : length (listed c.kept.result) ≡ width_of (is_wide suffix) =
    c.kept.ensures.count ∙ ap (λ ws. length ws) (c.register-value.ensures ∙ ap (words_in (top_frame c.args.stack.now) c.args.a) c.is_wide.ensures) ∙ count_in (top_frame c.args.stack.now) c.args.a (is_wide suffix) in
    subst (AreWithin c.args.heap.now c.args.found.array c.args.found.slot) (sym count) c.requires.there

pub returns : goal.returns
returns c is =
    let here = seen c.args.image.now c.args.stack.now c.args.heap.now c.args.next in
    let suffix = standard_suffix c.args.suffix in
    let test = c.is_storable.ensures (is_of_suffix suffix) (top_frame c.args.stack.now) c.args.next is in
    let holds : is_storable here c.args.found.array suffix (reg_word (top_frame c.args.stack.now) c.args.a) ≡ true =
    sym (ap (is_storable here c.args.found.array suffix) c.word.ensures) ∙ sym test ∙ c.if-not-is_storable.false in
    let words = c.kept.ensures.kept (component is.ty) is.passes ∙ ap (narrowed_all (component is.ty)) (c.register-value.ensures ∙ ap (words_in (top_frame c.args.stack.now) c.args.a) c.is_wide.ensures) in
    let P : Did WordLeft → Type 0 = λ d. Answers next.On d c.args.stack.now c.args.heap.now c.go_on.new.stack c.store.new.heap in
    subst P (sym (taken_store here c.args.found.array suffix c.args.a c.args.found.slot is.ty (listed c.kept.result) holds is.kind words)) (c.go_on.ensures, c.store.ensures)
