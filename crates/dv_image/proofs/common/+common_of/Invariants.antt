use Rattle.dv_image.proofs.common.+common_of.Given as goal

abbrev pub decreases-common_of : goal.decreases-common_of
decreases-common_of l = l.a_dims
