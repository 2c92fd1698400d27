use Rattle.ygenerate.proofs.message.Trouble.put.Goals as goal

pub returns-in-NoMemory : goal.returns-in-NoMemory
returns-in-NoMemory g c = rw c.in-NoMemory.is c.say-in-NoMemory.ensures

pub returns-in-CannotRead : goal.returns-in-CannotRead
returns-in-CannotRead g c = rw c.in-CannotRead.is
    (rw (c.name.ensures, c.as_bytes.ensures.value) at c.put_pieces.ensures)

pub returns-in-CannotWrite : goal.returns-in-CannotWrite
returns-in-CannotWrite g c = rw c.in-CannotWrite.is
    (rw (
      c.name-in-CannotWrite.ensures,
      c.as_bytes-in-CannotWrite.ensures.value,
      c.as_bytes-in-CannotWrite-2.ensures.value,
    ) at c.put_pieces-in-CannotWrite.ensures)
