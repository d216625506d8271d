use Rattle.dv_effects.proofs.steps.effect_of.Goals as goal

pub returns-in-Const-clause-words : goal.returns-in-Const-clause-words
returns-in-Const-clause-words c = c.constant.ensures.words c.args.bases.now

pub returns-in-ArrayGet-clause-words : goal.returns-in-ArrayGet-clause-words
returns-in-ArrayGet-clause-words c = c.element_got.ensures.words c.args.bases.now

pub returns-in-IntUnary-clause-words : goal.returns-in-IntUnary-clause-words
returns-in-IntUnary-clause-words c = c.put_int.ensures.words c.args.bases.now

pub returns-in-ConstString-clause-registers : goal.returns-in-ConstString-clause-registers
returns-in-ConstString-clause-registers c = λ code s. rw c.in-ConstString.is (c.put_named.ensures.registers code.method s)

pub returns-in-ConstClass-clause-registers : goal.returns-in-ConstClass-clause-registers
returns-in-ConstClass-clause-registers c = λ code s. rw c.in-ConstClass.is (c.put_named-in-ConstClass.ensures.registers code.method s)
