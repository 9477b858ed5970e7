-- The laws of the shut pick as one list, for the functions whose returns are a list of checks.
use Rattle.octets.proofs.Pick.{pick_yes, pick_no, pick_lt, pick_ge, pick_le, pick_gt, pick_eq, pick_ne, pick_differ, pick_same}

pub ruleset picks = (pick_yes, pick_no, pick_lt, pick_ge, pick_le, pick_gt, pick_eq, pick_ne, pick_differ, pick_same)
