use Rattle.std.proofs.Common.{◌≡◌, ◌-◌, ◌++◌, ℕ, suc, List, [], map, Some, None, sym, ap, ◌∙◌, subst, arith}
use Rattle.dv_worklist.specs.Flow.{Onward}
use Rattle.dv_worklist.specs.Beside.{Kept, onward_kept}
use Rattle.dv_typing.specs.declared.typing.RegState.{RegState}
use Rattle.dv_typing.specs.Transfer.{out}
use Rattle.law_flow.specs.Fitting.{StateFits}
use Rattle.law_flow.proofs.TransferFits.{transfer_fits}
use Rattle.law_infer.specs.Flowing.{fits_at}
use Rattle.law_gather.specs.Gathered.{addresses}
use Rattle.law_blocks.specs.Blocks.{onward_through}
use Rattle.dv_ops.specs.Meaning.{code_of}
use Rattle.dv_bases.specs.Bases.{Names}
use Rattle.dv_bases.specs.States.{state_of}
use Rattle.dv_plan.specs.Marks.{before_by}
use Rattle.dv_infer.specs.Along.{to_target}
use Rattle.dv_infer.specs.Straight.{follows_in}
use Rattle.dv_infer.proofs.Planned.{inside, has_ways, ways_are, entry_inside}
use Rattle.dv_infer.proofs.Through.{goes_next, goes_further, ends_here}
use Rattle.dv_infer.proofs.onward.onward_through.Goals as goal

abbrev Gone : Type 0
Gone = List (Onward (Kept RegState Names))

pub loop-words-init : goal.loop-words-init
loop-words-init c =
    let names = c.args.bases.now in
    let code = code_of c.args.code.now in
    let marks = c.args.plan.now.marks.items in
    let same : state_of names c.in_ok-words.words ≡ state_of names c.args.words.now = c.in_ok-words.ensures.state names in
    let none : c.none-onwards.result ≡ [] = c.none-onwards.ensures in
    let gone : RegState → Gone = λ s. map (onward_kept names) (onward_through names.image code (before_by marks) (addresses code) c.args.place s) in
    record {
      left = addresses code;
      room = omega arith;
      inside = c.requires.place;
      are = c.in_ok-words.ensures.words names c.requires.words;
      fits = subst (λ (s : RegState). fits_at names.image code c.args.place s) (sym same) c.requires.fits;
      done = ap gone (sym same) ∙ sym (ap (λ (os : Gone). os ++ gone (state_of names c.in_ok-words.words)) none);
    }

pub ways_at-ways-requires-clause-there : goal.ways_at-ways-requires-clause-there
ways_at-ways-requires-clause-there c = has_ways c.args.bases.now (code_of c.args.code.now) c.requires.ready c.args.plan.now c.requires.plan c.loop-words.at c.loop-words.invariant.fits.0

pub push_entry-requires-clause-inside : goal.push_entry-requires-clause-inside
push_entry-requires-clause-inside c =
    let names = c.args.bases.now in
    let code = code_of c.args.code.now in
    let plan = c.args.plan.now in
    let marks = plan.marks.items in
    let at = c.loop-words.at in
    let inv = c.loop-words.invariant in
    let insn = c.requires.ready.clean.each at inv.fits.0 in
    let x = insn.0 in
    let w = c.ways_at-ways.result.now in
    let is = ways_are names code c.requires.ready plan c.requires.plan at x w inv.inside insn.1.fetched c.ways_at-ways.ensures in
    entry_inside code at x w.covering is.covering

pub loop-words-smaller : goal.loop-words-smaller
loop-words-smaller c =
    let names = c.args.bases.now in
    let code = code_of c.args.code.now in
    let plan = c.args.plan.now in
    let marks = plan.marks.items in
    let at = c.loop-words.at in
    let inv = c.loop-words.invariant in
    let insn = c.requires.ready.clean.each at inv.fits.0 in
    let x = insn.0 in
    let w = c.ways_at-ways.result.now in
    let is = ways_are names code c.requires.ready plan c.requires.plan at x w inv.inside insn.1.fetched c.ways_at-ways.ensures in
    let some : follows_in marks w.targets at ≡ Some c.in-Some.next = sym (c.in-Some.ensures ∙ ap (λ ts. follows_in marks ts at) c.items-targets.ensures) in
    let g = (goes_next names code marks c.requires.plan.before at x w insn.1.fetched is c.in-Some.next some).1 in
    omega (arith, g.rises, inv.inside)

pub loop-words-preserved : goal.loop-words-preserved
loop-words-preserved c =
    let names = c.args.bases.now in
    let code = code_of c.args.code.now in
    let plan = c.args.plan.now in
    let marks = plan.marks.items in
    let at = c.loop-words.at in
    let inv = c.loop-words.invariant in
    let insn = c.requires.ready.clean.each at inv.fits.0 in
    let x = insn.0 in
    let w = c.ways_at-ways.result.now in
    let is = ways_are names code c.requires.ready plan c.requires.plan at x w inv.inside insn.1.fetched c.ways_at-ways.ensures in
    let s = state_of names c.loop-words.words in
    let after = state_of names c.in_ok-words-2.words in
    let a : after ≡ out names.image code.method at x.op s = c.in_ok-words-2.ensures.state x insn.1.fetched in
    let left : ℕ = inv.left - 1 in
    let count : inv.left ≡ suc left = omega (arith, inv.room, inv.inside) in
    let whole : Gone = map (onward_kept names) (onward_through names.image code (before_by marks) (addresses code) c.args.place (state_of names c.args.words.now)) in
    let done : Gone = c.loop-words.onwards in
    let handed : Gone = c.push_entry.new.onwards in
    let so_far : whole ≡ done ++ map (onward_kept names) (onward_through names.image code (before_by marks) (suc left) at s) =
    subst (λ (n : ℕ). whole ≡ done ++ map (onward_kept names) (onward_through names.image code (before_by marks) n at s)) count inv.done in
    let some : follows_in marks w.targets at ≡ Some c.in-Some.next = sym (c.in-Some.ensures ∙ ap (λ ts. follows_in marks ts at) c.items-targets.ensures) in
    let g = (goes_next names code marks c.requires.plan.before at x w insn.1.fetched is c.in-Some.next some).1 in
    record {
      left = left;
      room = omega (arith, inv.room, count, g.rises);
      inside = inside names code c.requires.ready plan c.requires.plan c.in-Some.next g.leads;
      are = c.in_ok-words-2.ensures.words;
      fits = (g.leads, subst (λ (t : RegState). StateFits names.image code t) (sym a) (transfer_fits names.image code c.requires.ready.code_is c.requires.ready.clean at x insn.1.fetched s inv.fits.1));
      done = goes_further names code marks c.requires.plan.before at x w insn.1.fetched is left s after a whole done handed so_far c.in_ok-push_entry.ensures c.in-Some.next some;
    }

pub returns-in-None : goal.returns-in-None
returns-in-None c =
    let names = c.args.bases.now in
    let code = code_of c.args.code.now in
    let plan = c.args.plan.now in
    let marks = plan.marks.items in
    let at = c.loop-words.at in
    let inv = c.loop-words.invariant in
    let insn = c.requires.ready.clean.each at inv.fits.0 in
    let x = insn.0 in
    let w = c.ways_at-ways.result.now in
    let is = ways_are names code c.requires.ready plan c.requires.plan at x w inv.inside insn.1.fetched c.ways_at-ways.ensures in
    let s = state_of names c.loop-words.words in
    let after = state_of names c.in_ok-words-2.words in
    let a : after ≡ out names.image code.method at x.op s = c.in_ok-words-2.ensures.state x insn.1.fetched in
    let left : ℕ = inv.left - 1 in
    let count : inv.left ≡ suc left = omega (arith, inv.room, inv.inside) in
    let whole : Gone = map (onward_kept names) (onward_through names.image code (before_by marks) (addresses code) c.args.place (state_of names c.args.words.now)) in
    let done : Gone = c.loop-words.onwards in
    let handed : Gone = c.push_entry.new.onwards in
    let so_far : whole ≡ done ++ map (onward_kept names) (onward_through names.image code (before_by marks) (suc left) at s) =
    subst (λ (n : ℕ). whole ≡ done ++ map (onward_kept names) (onward_through names.image code (before_by marks) n at s)) count inv.done in
    let none : follows_in marks w.targets at ≡ None = sym (c.in-None.ensures ∙ ap (λ ts. follows_in marks ts at) c.items-targets.ensures) in
    let all : Gone = c.push_targets.new.onwards in
    let pushed : all ≡ handed ++ map (to_target names after) w.targets = c.in_ok-push_targets-in-None.ensures ∙ ap (λ ts. handed ++ map (to_target names after) ts) c.items-targets.ensures in
    sym (ends_here names code marks c.requires.plan.before at x w insn.1.fetched is left s after a whole done handed so_far c.in_ok-push_entry.ensures all none pushed)
