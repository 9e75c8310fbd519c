-- `server::check` meets its contract.
use borrow.Author.Tests.{lt-ltb, le-ltb}
use Rattle.common.specs.Tests.{first}
use Rattle.reader.specs.Sizes.{ids, most_vectors}
use Rattle.server.specs.Messages.{most_sent, buffer_bytes}
use Rattle.server.specs.Serving.{refusal}
use Rattle.server.proofs.check.Goals as goal

pub returns-then-not-in_range : goal.returns-then-not-in_range
unfolding refusal first
returns-then-not-in_range c = rw (← c.in_range.ensures, c.if-not-in_range.true)

pub returns-then-room-lt-BUFFER_BYTES : goal.returns-then-room-lt-BUFFER_BYTES
unfolding refusal first buffer_bytes most_sent ids most_vectors
returns-then-room-lt-BUFFER_BYTES c = rw (← c.in_range.ensures, c.if-not-in_range.false, lt-ltb _ _ c.if-room-lt-BUFFER_BYTES.true)

pub returns : goal.returns
unfolding refusal first buffer_bytes most_sent ids most_vectors
returns c = rw (← c.in_range.ensures, c.if-not-in_range.false, le-ltb _ _ c.if-room-lt-BUFFER_BYTES.false)
