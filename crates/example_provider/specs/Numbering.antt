-- What a numbering cloud shows: all that its inventory does.
use Rattle.provider.specs.Cloud.{Cloud}
use Rattle.sim_cloud.specs.Simulated.{shown_by}
use Rattle.example_provider.specs.declared.numbering_cloud.NumberingCloud.{NumberingCloud}

abbrev pub cloud_of : NumberingCloud → Cloud
cloud_of c = shown_by c.all
