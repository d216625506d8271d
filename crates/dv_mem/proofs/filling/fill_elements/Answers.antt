use Rattle.std.proofs.Common.{◌≡◌, ◌∙◌, ◌+◌, ℕ, suc, List, ℤ, length, take, ap, arith}
use Rattle.dv_defs.specs.Numbers.{elements}
use Rattle.dv_defs.specs.Tiling.{bytes_in}
use Rattle.dv_defs.specs.Types.{words_of}
use Rattle.dv_words.specs.Mem.{filled, stored}
use Rattle.dv_mem.specs.Payloads.{element_at}
use Rattle.dv_mem.specs.Values.{listed}
use Rattle.dv_mem.proofs.Storing.{no_string_stored, size_after}
use Rattle.dv_mem.proofs.Writing.{count_words, element_stored, room, take_elements, words_some}
use Rattle.dv_mem.proofs.filling.fill_elements.Goals as goal

pub slot_of-requires : goal.slot_of-requires
slot_of-requires c = omega (arith, room c.args.ty.now c.loop-k.k c.args.data.count c.loop-k-test.true, c.requires.there.few, words_some c.args.ty.now)

pub store-requires-clause-there : goal.store-requires-clause-there
store-requires-clause-there c =
    let before = filled c.args.ty.now (take c.loop-k.k (elements c.args.data.count c.args.data.width (bytes_in c.args.data.units.now))) in
    let size = size_after c.args.heap.now c.loop-k.heap c.args.array 0 before c.loop-k.invariant in
    let count : length (listed c.kept-value.result) ≡ words_of c.args.ty.now = ap (λ ws. length ws) (c.kept-value.ensures c.requires.fits) ∙ count_words c.args.ty.now (element_at c.args.data.width c.args.data.units.now c.loop-k.k) in
    let all = room c.args.ty.now c.loop-k.k c.args.data.count c.loop-k-test.true in
    record {
      positive = c.requires.there.positive;
      within = omega (arith, all, count, c.slot_of.ensures, size, c.requires.there.within);
      few = omega (arith, all, count, c.slot_of.ensures, c.requires.there.few);
    }

pub store-requires-clause-no_string : goal.store-requires-clause-no_string
store-requires-clause-no_string c =
    let before = filled c.args.ty.now (take c.loop-k.k (elements c.args.data.count c.args.data.width (bytes_in c.args.data.units.now))) in
    no_string_stored c.args.heap.now c.loop-k.heap c.args.array 0 before c.requires.no_string c.loop-k.invariant

pub loop-k-preserved : goal.loop-k-preserved
loop-k-preserved c =
    let bytes = bytes_in c.args.data.units.now in
    let next : suc c.loop-k.k ≡ c.loop-k.k + 1 = omega arith in
    c.store.ensures ∙ ap (λ h. stored h c.args.array c.slot_of.result (listed c.kept-value.result)) c.loop-k.invariant ∙
    ap (λ (n : ℕ). stored (stored c.args.heap.now c.args.array 0 (filled c.args.ty.now (take c.loop-k.k (elements c.args.data.count c.args.data.width bytes)))) c.args.array n (listed c.kept-value.result)) c.slot_of.ensures ∙
    element_stored c.args.heap.now c.args.array c.args.ty.now c.args.data.count c.args.data.width bytes c.loop-k.k (listed c.kept-value.result) c.loop-k-test.true (c.kept-value.ensures c.requires.fits) ∙
    ap (λ (n : ℕ). stored c.args.heap.now c.args.array 0 (filled c.args.ty.now (take n (elements c.args.data.count c.args.data.width bytes)))) next

pub returns : goal.returns
returns c =
    let bytes = bytes_in c.args.data.units.now in
    let all : c.loop-k.k ≡ c.args.data.count = omega (arith, c.loop-k-test.false, c.loop-k.auto.k-end) in
    c.loop-k.invariant ∙ ap (λ (ns : List ℤ). stored c.args.heap.now c.args.array 0 (filled c.args.ty.now ns)) (take_elements c.args.data.count c.args.data.width bytes c.loop-k.k all)
