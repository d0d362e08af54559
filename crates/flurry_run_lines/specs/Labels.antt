-- Labels of a world, as text.
use Rattle.std.specs.Prelude.{ℕ, true, false, List, ◌∷◌, ◌++◌, codes, None, Some}
use Rattle.std.specs.Fmt.{decimal}
use Rattle.flurry_base.specs.declared.reply.KeptReply.{KeptReply}
use Rattle.flurry_base.specs.declared.reply.KeptReply.TheVariants.{Value, Pair, Contains, New, Changed, Exists}
use Rattle.flurry_steps_theory.specs.declared.Label.{Label}
use Rattle.flurry_steps_theory.specs.declared.Label.TheVariants.{Begin, Decide, Reply, Refused, Wipe, Read, End, Opened, Placed, Moved, Published, Silent}
use Rattle.flurry_run_lines.specs.SeqReplies.{option_text}

-- a reply: a value or none, whether a key is present, the value that was put, the one that took the place of another, or the one that
-- stands
abbrev pub reply_text : KeptReply ℕ ℕ → List ℕ
reply_text (Value v) = option_text v
reply_text (Pair None) = codes "none"
reply_text (Pair (Some p)) = codes "some " ++ decimal p.1
reply_text (Contains true) = codes "true"
reply_text (Contains false) = codes "false"
reply_text (New v) = codes "new " ++ decimal v
reply_text (Changed w v) = codes "changed " ++ decimal w
reply_text (Exists v w) = codes "exists " ++ decimal v

-- a label, without its line end
abbrev pub label_text : {F : Type 0} → Label ℕ ℕ F → List ℕ
label_text (Begin p c) = codes "begin " ++ decimal p
label_text (Decide p r) = codes "decide " ++ (decimal p ++ 32 ∷ reply_text r)
label_text (Reply p r) = codes "reply " ++ (decimal p ++ 32 ∷ reply_text r)
label_text (Refused p) = codes "refused " ++ decimal p
label_text (Wipe p e i) = codes "wipe " ++ (decimal p ++ 32 ∷ (decimal e ++ 32 ∷ decimal i))
label_text (Read p k v) = codes "read " ++ (decimal p ++ 32 ∷ (decimal k ++ 32 ∷ decimal v))
label_text (End p) = codes "end " ++ decimal p
label_text (Opened e) = codes "opened " ++ decimal e
label_text (Placed e) = codes "placed " ++ decimal e
label_text (Moved e i) = codes "moved " ++ (decimal e ++ 32 ∷ decimal i)
label_text (Published e) = codes "published " ++ decimal e
label_text (Silent p) = codes "silent " ++ decimal p
