use Rattle.dv_coderead.proofs.registers.+list.Given as goal

abbrev pub decreases-list : goal.decreases-list
decreases-list l = l.room
