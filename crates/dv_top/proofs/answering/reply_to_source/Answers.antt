use Rattle.std.proofs.Common.{◌∙◌}
use Rattle.dv_top.proofs.answering.reply_to_source.Goals as goal

pub returns-in_err-reply_to_command-clause-legal : goal.returns-in_err-reply_to_command-clause-legal
returns-in_err-reply_to_command-clause-legal g c bytes left some =
    c.in_err-reply_to_command.ensures.legal bytes (c.deref.ensures.value ∙ c.in_ok-text.ensures.all bytes left) some

pub returns-clause-said : goal.returns-clause-said
returns-clause-said g c bytes left = c.in_ok-reply_to_command.ensures.said bytes (c.deref.ensures.value ∙ c.in_ok-text.ensures.all bytes left)

pub returns-clause-legal : goal.returns-clause-legal
returns-clause-legal g c bytes left some = c.in_ok-reply_to_command.ensures.legal bytes (c.deref.ensures.value ∙ c.in_ok-text.ensures.all bytes left) some
