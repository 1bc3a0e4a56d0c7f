use Rattle.sve_bytes.proofs.path_reading.next.Goals as goal

pub returns-in-Before : goal.returns-in-Before
returns-in-Before c =
    let empty = rw c.in-Before.is at c.requires in
    rw empty c.after_nothing.ensures
