-- What the threads share may cross threads.
use denote.Param.Send.{IsSync}
use Rattle.flurry.proofs.Sharing.{shares}
use Rattle.use_words.specs.contracts.words.Words as Words
use Rattle.use_words.proofs.fn.count_lines.scope.Goals as goal

pub spawn-child-requires-send-F : goal.spawn-child-requires-send-F
spawn-child-requires-send-F g c κs within =
    let shared : IsSync Words.the_row = search shares depth 60 in
    search shares depth 60
