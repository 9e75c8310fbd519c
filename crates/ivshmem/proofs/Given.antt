-- The settings that a host's struct gives, number by number. Two numbers that are swapped in the definition and in the code alike
-- would meet every promise.
use mathlib.Core.Path.{◌≡◌, refl}
use Rattle.ivshmem.specs.Promises.{given}

pub each_in_its_place :
    given
    (record {
      peers = 2;
      vectors = 3;
      table = 4;
      common = 5;
      output = 6;
      base = 7;
      protocol = 8;
      vendor = 9;
      subsystem = 10;
    })
    ≡ record {
      peers = 2;
      vectors = 3;
      table = 4;
      common = 5;
      output = 6;
      base = 7;
      protocol = 8;
      vendor = 9;
      subsystem = 10;
    }
each_in_its_place = refl
