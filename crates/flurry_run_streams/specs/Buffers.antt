-- What a clause reads of the buffers.
use Rattle.std.specs.Prelude.{ℕ, List, Bool, Option}
use Rattle.std.specs.Io.Buffered.{reader_remaining, reader_buffer, writer_contents, writer_inner}
use Rattle.flurry_run_streams.specs.LineEnds.{HasNoBreak}
use Rattle.flurry_run_streams.specs.declared.buffers.Input.{Input}
use Rattle.flurry_run_streams.specs.declared.buffers.Output.{Output}

-- the buffer and then the bytes of the reader behind, where those are known
abbrev pub input_remaining : {R A : Type 0} → (R → Option (List ℕ)) → Input R A → Option (List ℕ)
input_remaining remaining input = reader_remaining remaining input.reader

-- the bytes that are read and not yet given
abbrev pub input_buffer : {R A : Type 0} → Input R A → List ℕ
input_buffer input = reader_buffer input.reader

-- whether a read has failed
abbrev pub input_has_failed : {R A : Type 0} → Input R A → Bool
input_has_failed input = input.failed

-- the next line may have to be waited for: the buffer has no whole line
abbrev pub input_can_wait : {R A : Type 0} → Input R A → Type 0
input_can_wait input = HasNoBreak (input_buffer input)

-- the bytes of the writer behind and then the buffer, where those are known
abbrev pub output_contents : {W A : Type 0} → (W → Option (List ℕ)) → Output W A → Option (List ℕ)
output_contents contents output = writer_contents contents output.writer

-- the bytes of the writer behind, where those are known
abbrev pub output_flushed : {W A : Type 0} → (W → Option (List ℕ)) → Output W A → Option (List ℕ)
output_flushed contents output = contents (writer_inner output.writer)

-- whether a write has failed
abbrev pub output_has_failed : {W A : Type 0} → Output W A → Bool
output_has_failed output = output.failed
