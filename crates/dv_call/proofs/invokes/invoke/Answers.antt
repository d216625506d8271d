use Rattle.std.proofs.Common.{◌≡◌, ◌∙◌, Ok, true, false, sym, ap, subst, refl, inl, inr}
use Rattle.std.specs.declared.alloc.AllocError.{AllocError}
use Rattle.dv_defs.specs.declared.run.Next.TheVariants as next
use Rattle.dv_machine.specs.State.{Did}
use Rattle.dv_ops.specs.Meaning.{method_of}
use Rattle.dv_units.specs.Tables.{standard_call}
use Rattle.dv_words.specs.Stacks.{arg_words, with_levels}
use Rattle.dv_words.specs.Answering.{Leads, LeavesStack}
use Rattle.dv_words.specs.Steps.{Left}
use Rattle.dv_call.specs.Landings.{called, landed_of, Enters, Fails, Runs, Stays}
use Rattle.dv_call.proofs.Called.{invoke_is, runs_it}
use Rattle.dv_call.proofs.invokes.invoke.Goals as goal

pub returns-in-Method-clause-does : goal.returns-in-Method-clause-does
returns-in-Method-clause-does c h seen own numbered no_native =
    let call = standard_call c.args.call in
    let g = method_of c.args.method in
    let is : called h call g (arg_words c.args.stack.now c.args.regs.now) ≡ Enters (method_of c.in-Method.method) =
    sym (c.land.ensures h seen own numbered) ∙ ap landed_of c.in-Method.is in
    let P : Did Left → Type 0 = λ d. Leads {E = AllocError} (Ok c.enter.result) d (LeavesStack h.shared c.args.stack.now c.enter.new.stack) (c.enter.new.stack ≡ c.args.stack.now) in
    subst P (sym (invoke_is c.args.stack.now h call c.args.regs.now g seen.is_stack (Enters (method_of c.in-Method.method)) is)) (c.enter.ensures h seen.is_stack)

pub returns-in-Method-clause-native : goal.returns-in-Method-clause-native
returns-in-Method-clause-native c h seen own numbered native =
    let call = standard_call c.args.call in
    let g = method_of c.args.method in
    let is : called h call g (arg_words c.args.stack.now c.args.regs.now) ≡ Enters (method_of c.in-Method.method) =
    sym (c.land.ensures h seen own numbered) ∙ ap landed_of c.in-Method.is in
    let no : true ≡ false = sym native ∙ runs_it c.args.stack.now h call c.args.regs.now g seen.is_stack (Enters (method_of c.in-Method.method)) is in
    absurd (cc no)

pub returns-in-Throws-clause-does : goal.returns-in-Throws-clause-does
returns-in-Throws-clause-does c h seen own numbered no_native =
    let call = standard_call c.args.call in
    let g = method_of c.args.method in
    let is : called h call g (arg_words c.args.stack.now c.args.regs.now) ≡ Fails c.in-Throws.named =
    sym (c.land.ensures h seen own numbered) ∙ ap landed_of c.in-Throws.is in
    let P : Did Left → Type 0 = λ d. Leads {E = AllocError} (Ok (next.Throw c.in-Throws.named)) d (LeavesStack h.shared c.args.stack.now c.args.stack.now) (c.args.stack.now ≡ c.args.stack.now) in
    subst P (sym (invoke_is c.args.stack.now h call c.args.regs.now g seen.is_stack (Fails c.in-Throws.named) is)) (refl, refl)

pub returns-in-Native-clause-does : goal.returns-in-Native-clause-does
returns-in-Native-clause-does c h seen own numbered no_native =
    let call = standard_call c.args.call in
    let g = method_of c.args.method in
    let stack = c.args.stack.now in
    let answer = called h call g (arg_words stack c.args.regs.now) in
    let P : Did Left → Type 0 = λ d. Leads {E = AllocError} (Ok next.On) d (LeavesStack h.shared stack stack) (stack ≡ stack) in
    elim c.in-Native.is [
      | inl p ↦ absurd
          (let is : answer ≡ Runs p.0 = sym (c.land.ensures h seen own numbered) ∙ ap landed_of p.1 in
          let no : false ≡ true = sym no_native ∙ runs_it stack h call c.args.regs.now g seen.is_stack (Runs p.0) is in
          cc no)
      | inr e ↦
          (let is : answer ≡ Stays = sym (c.land.ensures h seen own numbered) ∙ ap landed_of e in
          subst P (sym (invoke_is stack h call c.args.regs.now g seen.is_stack Stays is))
          (record { levels = ap (with_levels stack) seen.is_stack.levels; shared = refl; started = refl }))
    ]
